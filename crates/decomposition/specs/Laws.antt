-- The laws of solutions: at another limit, and of another table. Definitions only.
use Rattle.std.specs.Prelude.{◌≡◌, ℕ, ◌<◌, ◌≤◌, Bool, true, List, [], ◌∷◌, None}
use Rattle.fault.specs.Bounds.{limit_fits}
use Rattle.fault.specs.Refusals.{refused}
use Rattle.tridiagonal.specs.Householder.{Kind}
use Rattle.tridiagonal.specs.Reduce.{largest_size}
use Rattle.tridiagonal.specs.Runs.{AlikeBelow}
use Rattle.decomposition.specs.Solutions.{Eigen, Solution, solved, failed, table_refusal, solution}

-- A solution, and what the same table comes to at each limit. If it is solved, in so many passes, it is the same at each allowed limit
-- above them, and at each limit from 1 to them it is NOT SETTLED, with that limit as its count.
pub record AnyLimit {C R : Type 0} (s : Solution C R) (at : ℕ → Solution C R) : Type 0 where
  pub above : (e : Eigen C R) (m : ℕ) → s ≡ solved e → limit_fits m ≡ true → e.passes < m → at m ≡ s
  pub within : (e : Eigen C R) (m : ℕ) → s ≡ solved e → 1 ≤ m → m ≤ e.passes → at m ≡ failed (refused 7 (m ∷ []))

-- Only the entries on and below the diagonal and the largest size decide: another table of the side that is not refused either, alike there
-- and in largest size, has the same solution.
unfoldable pub OnlyLower : {C R : Type 0} → Kind C R → Bool → ℕ → List C → R → ℕ → Type 0
OnlyLower {C} K asked n t tolerance limit = (u : List C) → table_refusal K n t ≡ None → table_refusal K n u ≡ None →
    AlikeBelow n t u → largest_size K t ≡ largest_size K u →
    solution K asked n t tolerance limit ≡ solution K asked n u tolerance limit
