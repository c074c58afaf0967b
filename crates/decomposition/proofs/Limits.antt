-- The law of limits, from that of settling.
use Rattle.std.proofs.Common.{◌≡◌, ℕ, Bool, List, Some, None, ap}
use Rattle.rows.specs.Keepers.{Answer, given, denied}
use Rattle.tridiagonal.specs.Householder.{Kind}
use Rattle.eigen.specs.Iterate.{settled}
use Rattle.eigen.specs.Runs.{Run}
use Rattle.eigen.specs.Settles.{settle_of}
use Rattle.eigen.proofs.Agreement.{task_limit}
use Rattle.decomposition.specs.Solutions.{Eigen, Form, solved, task_of, ended, ended_with, settled_form, unless_failed, table_refusal, reduced_form, solution}
use Rattle.decomposition.specs.Laws.{AnyLimit}

module _ {C R : Type 0} (K : Kind C R) where
  -- a run that is solved gave its passes
  settles : (vectors : List C) (f : Form C R) (run : Run R) (a : Answer ℕ) (e : Eigen C R) → ended_with K vectors f run a ≡ solved e →
      a ≡ settled e.passes
  settles vectors f run (given passes) e is = let same : passes ≡ e.passes = cc in ap given same
  settles vectors f run (denied why) e is = absurd (cc)

  form_limits : (asked : Bool) (f : Form C R) (tolerance : R) (limit : ℕ) →
      AnyLimit (settled_form K asked f tolerance limit) (settled_form K asked f tolerance)
  form_limits asked f tolerance limit =
      let run = settle_of K.reals K.real (task_of f tolerance) in
      let law = λ (e : Eigen C R) (m : ℕ) (is : settled_form K asked f tolerance limit ≡ solved e).
      task_limit K.reals K.real (task_of f tolerance) limit m e.passes (settles _ f (run limit) (run limit).answer e is) in
      record {
        above = λ e m is ok h. ap (λ (r : Run R). ended K asked f r r.answer) ((law e m is).0 ok h);
        within = λ e m is least h. ap (ended K asked f (run m)) ((law e m is).1 least h);
      }

  pub any_limit : (asked : Bool) (n : ℕ) (t : List C) (tolerance : R) (limit : ℕ) →
      AnyLimit (solution K asked n t tolerance limit) (solution K asked n t tolerance)
  unfolding solution
  any_limit asked n t tolerance limit =
      let at = settled_form K asked (reduced_form K n t) tolerance in
      elim (table_refusal K n t) as (λ o. AnyLimit (unless_failed K o (at limit)) (λ m. unless_failed K o (at m))) [
        | None ↦ form_limits asked (reduced_form K n t) tolerance limit
        | Some why ↦ record { above = λ e m is ok h. absurd (cc); within = λ e m is least h. absurd (cc) }
      ]
