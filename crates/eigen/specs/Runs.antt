-- A run over values and off-diagonal entries alone: its answer, what it leaves, and the turns it makes. Definitions only.
use Rattle.std.specs.Prelude.{ℕ, ◌-◌, cond, List, map, Some, None, Option, ◌==◌}
use Rattle.scalar.specs.Ops.{Ops, RealOps}
use Rattle.rows.specs.Turns.{Turn}
use Rattle.rows.specs.Keepers.{Answer, given, denied}
use Rattle.eigen.specs.Blocks.{Span, block_from, offs_from}
use Rattle.eigen.specs.Turnings.{Turning}
use Rattle.eigen.specs.Passes.{pass_left, pass_end}
use Rattle.eigen.specs.Iterate.{Step, single, broken, passed, Ran, iterate}

-- where a run stands between two passes
pub record Standing (R : Type 0) : Type 0 where
  pub values : List R
  pub offs : List R
  pub block : Span

-- what a whole run gives
pub record Run (R : Type 0) : Type 0 where
  pub answer : Answer ℕ
  pub values : List R
  pub offs : List R
  pub turns : List (Turn R)

abbrev pub standing_of : {R : Type 0} → List R → List R → Span → Standing R
standing_of values offs block = record { values = values; offs = offs; block = block }

module _ {R : Type 0} (ops : Ops R R) (real : RealOps R) (tolerance : R) where
  -- the block found from `end`
  abbrev pub searched : List R → List R → ℕ → Standing R
  searched values offs end =
      standing_of values (offs_from ops real tolerance values offs end) (block_from ops real tolerance values offs end)

  -- after a pass the block is found again
  abbrev pub passed_to : Option ℕ → Turning R → Step (Standing R) (Turn R)
  passed_to None o = broken
  passed_to (Some end) o = passed (searched o.values o.offs end) o.turns

  abbrev pub pass_of : Standing R → Step (Standing R) (Turn R)
  pass_of s = cond (s.block.start == s.block.end) single
      (passed_to (pass_end ops real tolerance s.block.start s.block.end s.values s.offs)
      (pass_left ops real tolerance s.block.start s.block.end s.values s.offs))

module _ {R : Type 0} (ops : Ops R R) where
  -- a settled run multiplies every value by the largest size
  abbrev pub scaled_by : R → List R → List R
  scaled_by largest values = map (λ v. ops.scale v largest) values

  abbrev pub values_at : R → Answer ℕ → List R → List R
  values_at largest (given passes) values = scaled_by largest values
  values_at largest (denied why) values = values

  abbrev pub run_by : R → Ran (Standing R) (Turn R) → Run R
  run_by largest r = record {
    answer = r.answer;
    values = values_at largest r.answer r.left.values;
    offs = r.left.offs;
    turns = r.made;
  }

module _ {R : Type 0} (ops : Ops R R) (real : RealOps R) where
  abbrev pub run_of : R → ℕ → ℕ → R → List R → List R → Run R
  run_of tolerance limit side largest values offs =
      run_by ops largest (iterate (pass_of ops real tolerance) limit 0 (searched ops real tolerance values offs (side - 1)))
