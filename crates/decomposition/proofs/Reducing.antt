-- What is known of a table that is reduced in buffers made for its side.
use Rattle.std.proofs.Common.{◌≡◌, ℕ, ◌-◌, ◌*◌, ◌<◌, ◌≤◌, ◌≢◌, true, false, ◌⊎◌, List, [], length, Some, None, Option, sym, refl, ap, ◌∙◌, ⊎_elim, arith}
use Rattle.std.proofs.lemmas.Bool.{ne_eqb}
use Rattle.std.proofs.lemmas.Bool.Decides.{nat_tests}
use Rattle.fault.specs.Refusals.{Refusal, refused}
use Rattle.tridiagonal.specs.Accepted.{accepted, unless_none}
use Rattle.tridiagonal.specs.Checks.{side_refused, reduce_refusal, refusal_for}
use Rattle.tridiagonal.specs.Householder.{Kind}
use Rattle.tridiagonal.specs.Outcome.{Reduced, reduce_outcome, unless_refused}
use Rattle.tridiagonal.specs.Reduce.{largest_size, reduced_table, values_of, offs_of, signs_of}
use Rattle.decomposition.specs.Solutions.{Form, table_refusal, reduced_form}
use Rattle.decomposition.specs.Forms.{Fits}

-- a side from 1 to 512
pub lawful_side : (n : ℕ) → 0 < n → n ≤ 512 → side_refused n ≡ false
lawful_side n some few = grind (arith, nat_tests)

module _ {C R : Type 0} (K : Kind C R) (n : ℕ) (t : List C) where
  pub side_refusal : side_refused n ≡ true → table_refusal K n t ≡ Some (refused 1 [])
  unfolding reduce_refusal
  side_refusal e = rw e

  -- a side of 0 or above 512
  pub refused_side : (n ≡ 0) ⊎ ((n ≡ 0 → ⊥) × (512 < n)) → table_refusal K n t ≡ Some (refused 1 [])
  refused_side way =
      side_refusal
      (⊎_elim (λ (z : n ≡ 0). grind (arith, nat_tests, z))
      (λ (z : (n ≡ 0 → ⊥) × (512 < n)). grind (arith, nat_tests, z.1)) way)

  pub length_refusal : side_refused n ≡ false → length t ≢ n * n → table_refusal K n t ≡ Some (refused 2 [])
  unfolding reduce_refusal
  length_refusal side wrong = rw (side, ne_eqb (length t) (n * n) wrong)

  -- a lawful side, and a table of another length
  pub refused_length : 0 < n → n ≤ 512 → length t ≢ n * n → table_refusal K n t ≡ Some (refused 2 [])
  refused_length some few wrong = length_refusal (lawful_side n some few) wrong

  -- a table that is not refused is whole
  pub table_whole : table_refusal K n t ≡ None → length t ≡ n * n
  table_whole none = (accepted K n t n (n - 1) (n - 1) (n - 1) none).as_table

pub reduced : {R : Type 0} (o : Option Refusal) (a n : ℕ) (b l : R) → Reduced a b ≡ reduce_outcome o n l → (o ≡ None) × ((a ≡ n) × (b ≡ l))
reduced None a n b l e = (refl, (cc, cc))
reduced (Some why) a n b l e = absurd (cc)

-- the form that a reduction leaves, from the slices that it was given and those that it left
module _ {C R : Type 0} (K : Kind C R) (n : ℕ) (t t0 : List C) (v0 f0 : List R) (s0 c0 : List C) where
  same_refusal : t0 ≡ t → length v0 ≡ n → length f0 ≡ n - 1 → length s0 ≡ n - 1 → length c0 ≡ n - 1 →
      refusal_for K n t0 v0 f0 s0 c0 ≡ table_refusal K n t
  same_refusal et ev ef es ec = cc

  pub reduces : (side : ℕ) (largest : R) (t1 : List C) (v1 f1 : List R) (s1 : List C) →
      t0 ≡ t → length v0 ≡ n → length f0 ≡ n - 1 → length s0 ≡ n - 1 → length c0 ≡ n - 1 →
      0 < side → side ≤ 512 →
      Reduced side largest ≡ reduce_outcome (refusal_for K n t0 v0 f0 s0 c0) n (largest_size K t0) →
      t1 ≡ unless_refused (refusal_for K n t0 v0 f0 s0 c0) t0 (reduced_table K n t0) →
      v1 ≡ unless_refused (refusal_for K n t0 v0 f0 s0 c0) v0 (values_of K n t0) →
      f1 ≡ unless_refused (refusal_for K n t0 v0 f0 s0 c0) f0 (offs_of K n t0) →
      s1 ≡ unless_refused (refusal_for K n t0 v0 f0 s0 c0) s0 (signs_of K n t0) →
      length t1 ≡ length t0 → length v1 ≡ length v0 → length f1 ≡ length f0 → length s1 ≡ length s0 →
      (table_refusal K n t ≡ None)
      × (◌≡◌ {A = Form C R} (record { side = side; largest = largest; table = t1; values = v1; offs = f1; signs = s1 }) (reduced_form K n t))
      × Fits {C = C} {R = R} (record { side = side; largest = largest; table = t1; values = v1; offs = f1; signs = s1 })
  reduces side largest t1 v1 f1 s1 et ev ef es ec some few answer it iv if is lt lv lf ls =
      let a = reduced (refusal_for K n t0 v0 f0 s0 c0) side n largest (largest_size K t0) answer in
      let none : table_refusal K n t ≡ None = sym (same_refusal et ev ef es ec) ∙ a.0 in
      let whole : length t ≡ n * n = table_whole K n t none in
      let square : n * n ≡ side * side = ap (λ (k : ℕ). k * k) (sym a.1.0) in
      let sn = a.1.0 in
      let bt = it ∙ unless_none _ t0 (reduced_table K n t0) a.0 ∙ ap (reduced_table K n) et in
      let bv = iv ∙ unless_none _ v0 (values_of K n t0) a.0 ∙ ap (values_of K n) et in
      let bf = if ∙ unless_none _ f0 (offs_of K n t0) a.0 ∙ ap (offs_of K n) et in
      let bs = is ∙ unless_none _ s0 (signs_of K n t0) a.0 ∙ ap (signs_of K n) et in
      let bl = a.1.1 ∙ ap (largest_size K) et in (
        none,
        rw (sn, bl, bt, bv, bf, bs),
        record {
          some = some;
          few = few;
          table = lt ∙ ap length et ∙ whole ∙ square;
          values = lv ∙ ev ∙ sym sn;
          offs = lf ∙ ef ∙ ap (λ (k : ℕ). k - 1) (sym sn);
          signs = ls ∙ es ∙ ap (λ (k : ℕ). k - 1) (sym sn);
        },
      )
