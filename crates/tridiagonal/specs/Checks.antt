-- What a reduction is refused for. Definitions only.
use Rattle.std.specs.Prelude.{ℕ, suc, ◌-◌, ◌*◌, ◌/◌, ◌%◌, Bool, not, cond, ◌&&◌, List, [], ◌∷◌, length, Some, None, Option, ◌==◌}
use Rattle.fault.specs.Bounds.{side_fits}
use Rattle.fault.specs.Refusals.{Refusal, refused}
use Rattle.tridiagonal.specs.Householder.{Kind}

abbrev pub side_refused : ℕ → Bool
side_refused n = not (side_fits n)

-- a table has n · n numbers, values n, and offs, signs and scratch n - 1
abbrev pub lengths_agree : ℕ → ℕ → ℕ → ℕ → ℕ → ℕ → Bool
lengths_agree n table values offs signs scratch =
    (table == n * n) && (values == n && (offs == n - 1 && (signs == n - 1 && scratch == n - 1)))

-- the first entry, of those that begin at place k, whose size is not finite
unfoldable pub entry_refusal : {C R : Type 0} → Kind C R → ℕ → ℕ → List C → Option Refusal
entry_refusal K n k [] = None
entry_refusal K n k (x ∷ xs) =
    cond (K.real.is_finite (K.ops.size x)) (entry_refusal K n (suc k) xs) (Some (refused 3 (k % n ∷ (k / n ∷ []))))

unfoldable pub reduce_refusal : {C R : Type 0} → Kind C R → ℕ → List C → ℕ → ℕ → ℕ → ℕ → Option Refusal
reduce_refusal K n t values offs signs scratch =
    cond (side_refused n) (Some (refused 1 []))
    (cond (lengths_agree n (length t) values offs signs scratch) (entry_refusal K n 0 t) (Some (refused 2 [])))

-- by the buffers themselves
abbrev pub refusal_for : {C R : Type 0} → Kind C R → ℕ → List C → List R → List R → List C → List C → Option Refusal
refusal_for K n t values offs signs scratch =
    reduce_refusal K n t (length values) (length offs) (length signs) (length scratch)
