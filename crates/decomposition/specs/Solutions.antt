-- What the decomposition of one table comes to. Definitions only.
use Rattle.std.specs.Prelude.{◌≡◌, ℕ, zero, suc, ◌-◌, Bool, true, false, cond, List, [], ◌++◌, map, Some, None, Ok, Err, vec_items, Option, Result, slice_index_or}
use Rattle.fault.specs.Refusals.{Refusal, refusal}
use Rattle.rows.specs.Keepers.{Kept, Answer, given, denied}
use Rattle.rows.specs.Makes.{rows_of}
use Rattle.rows.specs.Turns.{Turn, turned_all}
use Rattle.tridiagonal.specs.Assemble.{matrix_q}
use Rattle.tridiagonal.specs.Checks.{reduce_refusal}
use Rattle.tridiagonal.specs.Householder.{Kind}
use Rattle.tridiagonal.specs.Reduce.{largest_size, reduced_table, values_of, offs_of, signs_of}
use Rattle.tridiagonal.specs.Tables.{lower}
use Rattle.eigen.specs.Runs.{Run}
use Rattle.eigen.specs.Settles.{Task, settle_of}
use Rattle.eigen.specs.Turnings.{kept_all}
use Rattle.decomposition.specs.declared.failure.Failure.{Failure}
use Rattle.decomposition.specs.declared.failure.Failure.TheVariants.{Solver, Memory}
use Rattle.decomposition.specs.declared.solved.Solved.{Solved}

-- the largest size of the table, the passes made, the values, and the vectors column by column
pub record Eigen (C R : Type 0) : Type 0 where
  pub largest : R
  pub passes : ℕ
  pub values : List R
  pub vectors : List C

-- Want of memory bears no number.
pub data Solution (C R : Type 0) : Type 0 where
  solved : Eigen C R → Solution C R
  failed : Refusal → Solution C R
  starved : Solution C R

module _ {C R : Type 0} where
  abbrev pub eigen_of : Solved C R → Eigen C R
  eigen_of s = record {
    largest = s.largest;
    passes = s.passes;
    values = vec_items s.values;
    vectors = vec_items s.vectors;
  }

  abbrev pub solution_of : Result (Solved C R) Failure → Solution C R
  solution_of (Ok s) = solved (eigen_of s)
  solution_of (Err (Solver fault)) = failed (refusal fault)
  solution_of (Err Memory) = starved

  -- Whether the answer is other than want of memory. This tests the answer and not the memory: where side and length fit, want of memory
  -- is open on every input.
  abbrev pub had_room : Result (Solved C R) Failure → Bool
  had_room (Ok s) = true
  had_room (Err (Solver fault)) = true
  had_room (Err Memory) = false

  -- a solution, or want of memory
  abbrev pub given_room : Bool → Solution C R → Solution C R
  given_room room s = cond room s starved

  -- The same refusal, or the same largest size, passes and values; the vectors may differ.
  abbrev pub SameButVectors : Solution C R → Solution C R → Type 0
  SameButVectors (solved a) (solved b) = (a.largest ≡ b.largest) × (a.passes ≡ b.passes) × (a.values ≡ b.values)
  SameButVectors (solved a) (failed v) = ⊥
  SameButVectors (solved a) starved = ⊥
  SameButVectors (failed w) (solved b) = ⊥
  SameButVectors (failed w) (failed v) = w ≡ v
  SameButVectors (failed w) starved = ⊥
  SameButVectors starved (solved b) = ⊥
  SameButVectors starved (failed v) = ⊥
  SameButVectors starved starved = Unit {0}

-- column i of some rows; d stands for what lies past a row's end
abbrev pub column_of : {C : Type 0} → C → List (List C) → ℕ → List C
column_of d rows i = map (λ row. slice_index_or row i d) rows

-- the first columns of some rows, one after the other
unfoldable pub by_columns : {C : Type 0} → C → List (List C) → ℕ → List C
by_columns d rows zero = []
by_columns d rows (suc i) = by_columns d rows i ++ column_of d rows i

-- what a reduction leaves
pub record Form (C R : Type 0) : Type 0 where
  pub side : ℕ
  pub largest : R
  pub table : List C
  pub values : List R
  pub offs : List R
  pub signs : List C

abbrev pub task_of : {C R : Type 0} → Form C R → R → Task R
task_of f tolerance = record {
  side = f.side;
  largest = f.largest;
  values = f.values;
  offs = f.offs;
  tolerance = tolerance;
  width = f.side;
}

module _ {C R : Type 0} (K : Kind C R) where
  -- the refusal of a table of side n, for which the buffers are made to measure
  abbrev pub table_refusal : ℕ → List C → Option Refusal
  table_refusal n t = reduce_refusal K n t n (n - 1) (n - 1) (n - 1)

  abbrev pub reduced_form : ℕ → List C → Form C R
  reduced_form n t = record {
    side = n;
    largest = largest_size K t;
    table = reduced_table K n t;
    values = values_of K n t;
    offs = offs_of K n t;
    signs = signs_of K n t;
  }

  -- the rows of Q
  abbrev pub rows_of_q : Form C R → List (List C)
  rows_of_q f = rows_of K.ops.zero f.side f.side (matrix_q K f.side (lower f.side 0 f.side f.table) f.signs)

  -- the rows of Q with the turns of a run, column by column
  abbrev pub vectors_of : Form C R → List (Turn R) → List C
  vectors_of f turns = by_columns K.ops.zero (map (turned_all K.ops turns) (rows_of_q f)) f.side

  -- what a run comes to, with these vectors
  abbrev pub ended_with : List C → Form C R → Run R → Answer ℕ → Solution C R
  ended_with vectors f run (given passes) = solved (record {
    largest = f.largest;
    passes = passes;
    values = run.values;
    vectors = vectors;
  })
  ended_with vectors f run (denied why) = failed why

  -- with the vectors where they are asked
  abbrev pub ended : Bool → Form C R → Run R → Answer ℕ → Solution C R
  ended asked f run a = ended_with (cond asked (vectors_of f run.turns) []) f run a

  abbrev pub settled_form : Bool → Form C R → R → ℕ → Solution C R
  settled_form asked f tolerance limit =
      ended asked f (settle_of K.reals K.real (task_of f tolerance) limit)
      (settle_of K.reals K.real (task_of f tolerance) limit).answer

  -- all that a keeper holds, column by column
  abbrev pub columns_kept : Kept C → List C
  columns_kept k = by_columns K.ops.zero k.rows k.width

  -- what a form comes to with a keeper: the vectors are what it holds at the end
  abbrev pub settled_with : Kept C → Form C R → R → ℕ → Solution C R
  settled_with k f tolerance limit =
      ended_with (columns_kept (kept_all K.ops (settle_of K.reals K.real (task_of f tolerance) limit).turns k)) f
      (settle_of K.reals K.real (task_of f tolerance) limit)
      (settle_of K.reals K.real (task_of f tolerance) limit).answer

  abbrev pub unless_failed : Option Refusal → Solution C R → Solution C R
  unless_failed None s = s
  unless_failed (Some why) s = failed why

  -- The decomposition of a table of side n: refused as its reduction is, else as its form settles.
  unfoldable pub solution : Bool → ℕ → List C → R → ℕ → Solution C R
  solution asked n t tolerance limit = unless_failed (table_refusal n t) (settled_form asked (reduced_form n t) tolerance limit)
