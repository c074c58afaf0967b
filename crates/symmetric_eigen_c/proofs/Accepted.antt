-- What a reduction leaves is assembled.
use Rattle.std.proofs.Common.{◌≡◌, ℕ, ◌-◌, ◌*◌, true, List, length, None, Option, sym, refl, ◌∙◌}
use Rattle.std.proofs.lemmas.Bool.{eq-eqb}
use Rattle.fault.specs.Refusals.{Refusal}
use Rattle.symmetric_eigen_c.specs.Forms.{q_of}
use Rattle.tridiagonal.specs.Assemble.{assemble_lengths, assemble_refusal, matrix_q}
use Rattle.tridiagonal.specs.Accepted.{accepted, unless_none}
use Rattle.tridiagonal.specs.Checks.{reduce_refusal}
use Rattle.tridiagonal.specs.Householder.{Kind}
use Rattle.tridiagonal.specs.Outcome.{unless_refused}
use Rattle.tridiagonal.specs.Reduce.{reduced_table, signs_of}
use Rattle.tridiagonal.specs.Tables.{lower}

agree : (n table signs q : ℕ) → table ≡ n * n → signs ≡ n - 1 → q ≡ n * n → assemble_lengths n table signs q ≡ true
agree n table signs q et es eq = rw (et, es, eq, eq-eqb (n * n) (n * n) refl, eq-eqb (n - 1) (n - 1) refl)

pub assembled : {C R : Type 0} (K : Kind C R) (n side : ℕ) (t t1 s1 q : List C) (values offs signs scratch : ℕ) →
    reduce_refusal K n t values offs signs scratch ≡ None → side ≡ n → length t1 ≡ length t → length s1 ≡ signs →
    length q ≡ n * n → assemble_refusal side t1 s1 q ≡ None
assembled K n side t t1 s1 q values offs signs scratch none is st ss sq =
    let a = accepted K n t values offs signs scratch none in
    let whole = agree n (length t1) (length s1) (length q) (st ∙ a.as_table) (ss ∙ a.as_signs) sq in
    rw (is, whole)

pub left : {A : Type 0} (o : Option Refusal) (was made now : A) → o ≡ None → now ≡ made → now ≡ unless_refused o was made
left o was made now none is = is ∙ sym (unless_none o was made none)

pub q_made : {C R : Type 0} (K : Kind C R) (n side : ℕ) (t t1 s1 : List C) → side ≡ n → t1 ≡ reduced_table K n t → s1 ≡ signs_of K n t →
    matrix_q K side (lower side 0 side t1) s1 ≡ q_of K n t
q_made K n side t t1 s1 is it es = rw (is, it, es)
