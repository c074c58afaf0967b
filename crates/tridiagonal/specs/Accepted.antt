-- What is known of a reduction that is not refused. Lemmas.
use Rattle.std.proofs.Common.{◌≡◌, ℕ, ◌-◌, ◌*◌, ◌<◌, ◌≤◌, Bool, true, false, cond, eqb, leb, List, length, Some, None, Option, refl, ap}
use Rattle.std.proofs.lemmas.Bool.{and_parts, eqb-true, leb-true, not-false}
use Rattle.fault.specs.Bounds.{side_fits}
use Rattle.tridiagonal.specs.Checks.{side_refused, lengths_agree, entry_refusal, reduce_refusal}
use Rattle.tridiagonal.specs.Householder.{Kind}
use Rattle.tridiagonal.specs.Outcome.{unless_refused}
use Rattle.fault.specs.Refusals.{Refusal}

pub record Accepted (n table values offs signs scratch : ℕ) : Type 0 where
  pub some : 0 < n
  pub few : n ≤ 512
  pub as_table : table ≡ n * n
  pub as_values : values ≡ n
  pub as_offs : offs ≡ n - 1
  pub as_signs : signs ≡ n - 1
  pub as_scratch : scratch ≡ n - 1

by_tests : (n table values offs signs scratch : ℕ) → side_refused n ≡ false → lengths_agree n table values offs signs scratch ≡ true →
    Accepted n table values offs signs scratch
by_tests n table values offs signs scratch side long =
    let bounds = and_parts (leb 1 n) (leb n 512) (not-false (side_fits n) side) in
    let a = and_parts (eqb table (n * n)) _ long in
    let b = and_parts (eqb values n) _ a.1 in
    let c = and_parts (eqb offs (n - 1)) _ b.1 in
    let d = and_parts (eqb signs (n - 1)) _ c.1 in
    record {
      some = leb-true 1 n bounds.0;
      few = leb-true n 512 bounds.1;
      as_table = eqb-true table (n * n) a.0;
      as_values = eqb-true values n b.0;
      as_offs = eqb-true offs (n - 1) c.0;
      as_signs = eqb-true signs (n - 1) d.0;
      as_scratch = eqb-true scratch (n - 1) d.1;
    }

not_refused : {A : Type 0} (side long : Bool) (a b : A) (entries : Option A) →
    cond side (Some a) (cond long entries (Some b)) ≡ None → (side ≡ false) × (long ≡ true)
not_refused true long a b entries none = absurd (cc)
not_refused false false a b entries none = absurd (cc)
not_refused false true a b entries none = (refl, refl)

-- Where nothing is refused the side and the lengths are as stated.
pub accepted : {C R : Type 0} (K : Kind C R) (n : ℕ) (t : List C) (values offs signs scratch : ℕ) →
    reduce_refusal K n t values offs signs scratch ≡ None → Accepted n (length t) values offs signs scratch
unfolding reduce_refusal
accepted K n t values offs signs scratch none =
    let tests = not_refused (side_refused n) (lengths_agree n (length t) values offs signs scratch) _ _ (entry_refusal K n 0 t) none in
    by_tests n (length t) values offs signs scratch tests.0 tests.1

-- where nothing is refused, what is made is left
pub unless_none : {A : Type 0} (o : Option Refusal) (was made : A) → o ≡ None → unless_refused o was made ≡ made
unless_none o was made e = ap (λ z. unless_refused z was made) e
