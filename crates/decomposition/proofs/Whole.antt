-- A whole solution, from its form.
use Rattle.std.proofs.Common.{◌≡◌, ℕ, ◌*◌, ◌≢◌, Bool, true, false, List, [], length, Some, None, Option, Err, sym, refl, ap, ◌∙◌, subst}
use Rattle.std.proofs.lemmas.Bool.{true≢false}
use Rattle.fault.specs.Refusals.{Refusal, refusal, refused}
use Rattle.rows.specs.Keepers.{Answer, given, denied}
use Rattle.tridiagonal.specs.Checks.{side_refused}
use Rattle.tridiagonal.specs.Householder.{Kind}
use Rattle.eigen.specs.Runs.{Run}
use Rattle.eigen.specs.Settles.{settle_of}
use Rattle.decomposition.specs.declared.failure.Failure.{Failure}
use Rattle.decomposition.specs.declared.failure.Failure.TheVariants.{Solver, Memory}
use Rattle.decomposition.specs.Solutions.{Form, Solution, failed, ended, settled_form, unless_failed, task_of, table_refusal, reduced_form, solution, solution_of, had_room, given_room, SameButVectors}
use Rattle.decomposition.specs.Forms.{Reduces}
use Rattle.decomposition.proofs.Limits.{any_limit}
use Rattle.decomposition.proofs.Lowers.{only_lower}
use Rattle.decomposition.proofs.Reducing.{side_refusal, length_refusal}

-- What is handed on where there is no form. Of a side or a length that is refused it is that refusal.
module _ {C R : Type 0} (K : Kind C R) (n : ℕ) (t : List C) where
  unformed_as : (why : Refusal) → table_refusal K n t ≡ Some why → ((side_refused n ≡ false) × (length t ≡ n * n) → ⊥) →
      (e : Failure) → Reduces K n t (Err e) → ◌≡◌ {A = Solution C R} (solution_of (Err e)) (failed why)
  unformed_as why is fits (Solver fault) h =
      let told : ◌≡◌ {A = Option Refusal} (Some (refusal fault)) (Some why) = sym h ∙ is in
      let same : refusal fault ≡ why = cc in
      ap failed same
  unformed_as why is fits Memory h = absurd (fits h)

  pub unformed_side : side_refused n ≡ true → (e : Failure) → Reduces K n t (Err e) →
      ◌≡◌ {A = Solution C R} (solution_of (Err e)) (failed (refused 1 []))
  unformed_side side = unformed_as (refused 1 []) (side_refusal K n t side) (λ h. absurd (true≢false (sym side ∙ h.0)))

  pub unformed_length : side_refused n ≡ false → length t ≢ n * n → (e : Failure) → Reduces K n t (Err e) →
      ◌≡◌ {A = Solution C R} (solution_of (Err e)) (failed (refused 2 []))
  unformed_length side wrong = unformed_as (refused 2 []) (length_refusal K n t side wrong) (λ h. wrong h.1)

module _ {C R : Type 0} (K : Kind C R) (n : ℕ) (t : List C) (tolerance : R) (limit : ℕ) where
  pub solves : (asked : Bool) (f : Form C R) → table_refusal K n t ≡ None → f ≡ reduced_form K n t →
      settled_form K asked f tolerance limit ≡ solution K asked n t tolerance limit
  unfolding solution
  solves asked f none is = rw (is, none)

  fails : (asked : Bool) (why : Refusal) → table_refusal K n t ≡ Some why → failed why ≡ solution K asked n t tolerance limit
  unfolding solution
  fails asked why is = rw is

  -- what is handed on where there is no form
  pub unformed : (asked : Bool) (e : Failure) → Reduces K n t (Err e) →
      ◌≡◌ {A = Solution C R} (solution_of (Err e)) (given_room (had_room {C = C} {R = R} (Err e)) (solution K asked n t tolerance limit))
  unformed asked (Solver fault) h = fails asked (refusal fault) h
  unformed asked Memory h = refl

  same_ended : (f : Form C R) (run : Run R) (a : Answer ℕ) → SameButVectors (ended K true f run a) (ended K false f run a)
  same_ended f run (given passes) = (refl, refl, refl)
  same_ended f run (denied why) = refl

  same_solution : SameButVectors (solution K true n t tolerance limit) (solution K false n t tolerance limit)
  unfolding solution
  same_solution =
      let f = reduced_form K n t in
      let r = settle_of K.reals K.real (task_of f tolerance) limit in
      elim (table_refusal K n t) as
      (λ o. SameButVectors (unless_failed K o (settled_form K true f tolerance limit)) (unless_failed K o (settled_form K false f tolerance limit)))
      [ None ↦ same_ended f r r.answer | Some why ↦ refl ]

  same_room : (room : Bool) →
      SameButVectors (given_room room (solution K true n t tolerance limit)) (given_room room (solution K false n t tolerance limit))
  same_room true = same_solution
  same_room false = tt

  -- asked for the vectors too, the rest is the same
  pub same_values : (s : Solution C R) (room : Bool) → s ≡ given_room room (solution K true n t tolerance limit) →
      SameButVectors s (given_room room (solution K false n t tolerance limit))
  same_values s room is =
      subst (λ (x : Solution C R). SameButVectors x (given_room room (solution K false n t tolerance limit))) (sym is) (same_room room)

-- what both calls promise where there is no form or no memory, and what does not depend on that
pub ruleset solution_laws = (unformed, unformed_side, unformed_length, same_values, any_limit, only_lower)
