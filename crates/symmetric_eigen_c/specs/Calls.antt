-- What the calls come to. Definitions only.
use Rattle.std.specs.Prelude.{ℕ, ◌*◌, Bool, cond, ◌&&◌, true, List, [], map, length, ◌==◌}
use Rattle.fault.specs.Refusals.{refused}
use Rattle.tridiagonal.specs.Checks.{side_refused}
use Rattle.tridiagonal.specs.Householder.{Kind}
use Rattle.decomposition.specs.Solutions.{Solution, solved, failed, starved, given_room, solution}
use Rattle.symmetric_eigen_c.specs.declared.outcome.Outcome.{Outcome}
use Rattle.symmetric_eigen_c.specs.Outcomes.{done_in, memory_wanting, told}

module _ {C R : Type 0} (K : Kind C R) where
  -- In this order: the side, the lengths of the table and of what is to hold values and vectors, want of memory; else the solution of the
  -- table with its vectors.
  abbrev pub solution_into : ℕ → List C → R → ℕ → ℕ → ℕ → Bool → Solution C R
  solution_into n table tolerance limit values vectors enough =
      cond (side_refused n) (failed (refused 1 []))
      (cond (length table == n * n && (values == n && vectors == n * n))
      (given_room enough (solution K true n table tolerance limit))
      (failed (refused 2 [])))

module _ {C R : Type 0} where
  abbrev pub outcome_of : Solution C R → Outcome
  outcome_of (solved e) = done_in e.passes
  outcome_of (failed why) = told why
  outcome_of starved = memory_wanting

  -- the values of a solution, or what was there
  abbrev pub values_or : Solution C R → List R → List R
  values_or (solved e) was = e.values
  values_or (failed why) was = was
  values_or starved was = was

  -- its vectors as they cross, or what was there
  abbrev pub vectors_or : {P : Type 0} → (C → P) → Solution C R → List P → List P
  vectors_or outward (solved e) was = map outward e.vectors
  vectors_or outward (failed why) was = was
  vectors_or outward starved was = was
