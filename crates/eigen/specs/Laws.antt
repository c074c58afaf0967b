-- The laws of whole runs: what a run starts from, how it ends, and what two runs have in common. Definitions only.
use Rattle.std.specs.Prelude.{◌≡◌, ℕ, ◌<◌, ◌≤◌, true, List, [], length, slice_index_or}
use Rattle.scalar.specs.Ops.{Ops, RealOps}
use Rattle.fault.specs.Bounds.{limit_fits}
use Rattle.rows.specs.Keepers.{Kept, Answer}
use Rattle.eigen.specs.Turnings.{kept_all}
use Rattle.eigen.specs.Iterate.{settled, not_settled}
use Rattle.eigen.specs.Settles.{Task, settle_of}
use Rattle.tridiagonal.specs.declared.reduction.Reduction.{Reduction}
use Rattle.tridiagonal.specs.Householder.{kind}
use Rattle.tridiagonal.specs.Outcome.{Reduced}
use Rattle.tridiagonal.specs.Runs.{Run as Reducing, ReduceRun, AlikeBelow, SameForm}

-- all that a run is given but the limit: side and largest size of the reduction, values and off-diagonal entries, the tolerance, and the
-- keeper's width and rows
pub record Start (C R : Type 0) : Type 0 where
  pub side : ℕ
  pub largest : R
  pub values : List R
  pub offs : List R
  pub tolerance : R
  pub kept : Kept C

-- the pass count or the refusal, and what is left
pub record Finish (C R : Type 0) : Type 0 where
  pub answer : Answer ℕ
  pub values : List R
  pub offs : List R
  pub kept : Kept C

abbrev pub start_of : {C R : Type 0} → Reduction R → List R → List R → R → Kept C → Start C R
start_of reduction values offs tolerance kept = record {
  side = reduction.side;
  largest = reduction.largest;
  values = values;
  offs = offs;
  tolerance = tolerance;
  kept = kept;
}

abbrev pub finish_of : {C R : Type 0} → Answer ℕ → List R → List R → Kept C → Finish C R
finish_of answer values offs kept = record { answer = answer; values = values; offs = offs; kept = kept }

abbrev pub task_of : {C R : Type 0} → Start C R → Task R
task_of s = record {
  side = s.side;
  largest = s.largest;
  values = s.values;
  offs = s.offs;
  tolerance = s.tolerance;
  width = s.kept.width;
}

-- a run from a start at a limit ends so
pub record IsRun {C R : Type 0} (ops : Ops C R) (rops : Ops R R) (real : RealOps R) (s : Start C R) (limit : ℕ) (f : Finish C R) : Type
    0 where
  pub answer : f.answer ≡ (settle_of rops real (task_of s) limit).answer
  pub values : f.values ≡ (settle_of rops real (task_of s) limit).values
  pub offs : f.offs ≡ (settle_of rops real (task_of s) limit).offs
  pub kept : f.kept ≡ kept_all ops (settle_of rops real (task_of s) limit).turns s.kept

-- two starts alike but for their keepers, each of the side
pub record AlikeButKeeper {C R : Type 0} (s t : Start C R) : Type 0 where
  pub side : s.side ≡ t.side
  pub largest : s.largest ≡ t.largest
  pub values : s.values ≡ t.values
  pub offs : s.offs ≡ t.offs
  pub tolerance : s.tolerance ≡ t.tolerance
  pub first : s.kept.width ≡ s.side
  pub second : t.kept.width ≡ t.side

-- two starts alike, the keepers' widths and rows included
pub record Alike {C R : Type 0} (s t : Start C R) : Type 0 where
  pub side : s.side ≡ t.side
  pub largest : s.largest ≡ t.largest
  pub values : s.values ≡ t.values
  pub offs : s.offs ≡ t.offs
  pub tolerance : s.tolerance ≡ t.tolerance
  pub width : s.kept.width ≡ t.kept.width
  pub rows : s.kept.rows ≡ t.kept.rows

-- two runs get the same answer and leave the same values and off-diagonal entries; rows that started alike end alike
pub record Agree {C R : Type 0} (s t : Start C R) (f g : Finish C R) : Type 0 where
  pub answer : f.answer ≡ g.answer
  pub values : f.values ≡ g.values
  pub offs : f.offs ≡ g.offs
  pub rows : (i j : ℕ) → i < length s.kept.rows → j < length t.kept.rows →
      slice_index_or s.kept.rows i [] ≡ slice_index_or t.kept.rows j [] → slice_index_or f.kept.rows i [] ≡ slice_index_or g.kept.rows j []

-- two runs get the same answer and leave the same of everything, the keepers' widths and rows included
pub record Same {C R : Type 0} (f g : Finish C R) : Type 0 where
  pub answer : f.answer ≡ g.answer
  pub values : f.values ≡ g.values
  pub offs : f.offs ≡ g.offs
  pub kept : f.kept ≡ g.kept

-- a run that takes what a reduction of side n and this largest size left, with a keeper of that side
pub record Takes {C R : Type 0} (s : Start C R) (a : Reducing C R) (n : ℕ) (l : R) : Type 0 where
  pub reduced : a.answer ≡ Reduced n l
  pub side : s.side ≡ n
  pub largest : s.largest ≡ l
  pub values : s.values ≡ a.left.values
  pub offs : s.offs ≡ a.left.offs
  pub width : s.kept.width ≡ n

module _ {C R : Type 0} (ops : Ops C R) (rops : Ops R R) (real : RealOps R) where
  -- Only the entries on and below the diagonal and the largest size decide. Two tables that are accepted, alike there and in largest size:
  -- values, off-diagonal entries, signs and Q come out the same, whatever the other buffers held, and runs that take what the two
  -- reductions left, at one tolerance and limit and with any two keepers of that side, agree.
  unfoldable pub AnyUpper : Start C R → ℕ → Finish C R → Type 0
  AnyUpper s limit f = (n : ℕ) (l : R) (a b : Reducing C R) (t : Start C R) (g : Finish C R) →
      ReduceRun (kind ops rops real) a.side a.given a.answer a.left →
      ReduceRun (kind ops rops real) b.side b.given b.answer b.left →
      AlikeBelow n a.given.table b.given.table → Takes s a n l → Takes t b n l → s.tolerance ≡ t.tolerance →
      IsRun ops rops real t limit g → SameForm (kind ops rops real) n a.left b.left × Agree s t f g

  -- Whatever else a run starts from, the keeper has no say in its answer, nor in the values and off-diagonal entries that it leaves; and
  -- what becomes of a row is decided by that row alone.
  unfoldable pub AnyKeeper : Start C R → ℕ → Finish C R → Type 0
  AnyKeeper s limit f = (t : Start C R) (g : Finish C R) → AlikeButKeeper s t → IsRun ops rops real t limit g → Agree s t f g

  -- Of a run settled with so many passes: started alike at an allowed limit above them it comes to the same end, and at a limit from 1 to
  -- them it is not settled, with that limit as its count.
  unfoldable pub AnyLimit : Start C R → Finish C R → Type 0
  AnyLimit s f = (passes m : ℕ) (t : Start C R) (g : Finish C R) → f.answer ≡ settled passes → Alike s t → IsRun ops rops real t m g →
      (limit_fits m ≡ true → passes < m → Same f g) × (1 ≤ m → m ≤ passes → g.answer ≡ not_settled m)
