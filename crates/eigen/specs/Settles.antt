-- Settling: what is refused before a run, and the run. Definitions only.
use Rattle.std.specs.Prelude.{ℕ, ◌+◌, Bool, cond, not, ◌&&◌, ◌||◌, List, [], length, ◌==◌}
use Rattle.scalar.specs.Ops.{Ops, RealOps}
use Rattle.fault.specs.Bounds.{limit_fits}
use Rattle.fault.specs.Refusals.{refused}
use Rattle.rows.specs.Keepers.{Answer, given, denied}
use Rattle.eigen.specs.Runs.{Run, run_of}

-- what a run is given but the limit and the keeper's rows
pub record Task (R : Type 0) : Type 0 where
  pub side : ℕ
  pub largest : R
  pub values : List R
  pub offs : List R
  pub tolerance : R
  pub width : ℕ

module _ {R : Type 0} (ops : Ops R R) (real : RealOps R) where
  -- below zero or not finite
  abbrev pub unlawful : R → Bool
  unlawful tolerance = real.lt tolerance ops.zero || not (real.is_finite tolerance)

  -- the first refusal that is due: of the lengths, the tolerance, the limit, the keeper's width
  abbrev pub check_of : ℕ → ℕ → R → ℕ → ℕ → ℕ → Answer (Unit {0})
  check_of values offs tolerance limit width side =
      cond (values == side && offs + 1 == side)
      (cond (unlawful tolerance) (denied (refused 4 []))
      (cond (limit_fits limit)
      (cond (width == side) (given tt) (denied (refused 6 [])))
      (denied (refused 5 []))))
      (denied (refused 2 []))

  abbrev pub check_task : Task R → ℕ → Answer (Unit {0})
  check_task t limit = check_of (length t.values) (length t.offs) t.tolerance limit t.width t.side

  -- a run that is refused before it begins changes nothing
  abbrev pub settle_by : Task R → ℕ → Answer (Unit {0}) → Run R
  settle_by t limit (given ok) = run_of ops real t.tolerance limit t.side t.largest t.values t.offs
  settle_by t limit (denied why) = record { answer = denied why; values = t.values; offs = t.offs; turns = [] }

  unfoldable pub settle_of : Task R → ℕ → Run R
  settle_of t limit = settle_by t limit (check_task t limit)
