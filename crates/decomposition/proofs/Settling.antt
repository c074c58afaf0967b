-- From the run of a settling to the solution.
use Rattle.std.proofs.Common.{◌≡◌, ℕ, zero, suc, ◌*◌, ◌<◌, ◌≤◌, true, false, List, [], map, length, None, sym, refl, ap, ◌∙◌, arith}
use Rattle.std.proofs.lemmas.Bool.Decides.{nat_tests}
use Rattle.std.proofs.lemmas.List.FromFn.{length-map-range_with_len}
use Rattle.std.proofs.lemmas.List.{length-map}
use Rattle.rows.specs.Keepers.{Kept}
use Rattle.rows.specs.Makes.{all_rows_fit, all_rows, row_of}
use Rattle.rows.specs.Turns.{turned_all}
use Rattle.rows.proofs.Held.{all_rows_held}
use Rattle.tridiagonal.specs.Assemble.{assemble_refusal, matrix_q}
use Rattle.tridiagonal.specs.Householder.{Kind}
use Rattle.tridiagonal.specs.Outcome.{unless_refused}
use Rattle.tridiagonal.specs.Tables.{lower}
use Rattle.eigen.specs.Laws.{Start, Finish, IsRun, task_of as start_task}
use Rattle.eigen.specs.Runs.{Run}
use Rattle.eigen.specs.Settles.{settle_of}
use Rattle.decomposition.specs.Solutions.{Form, ended_with, settled_form, settled_with, task_of, rows_of_q, by_columns, columns_kept}
use Rattle.decomposition.specs.Forms.{Fits}
use Rattle.decomposition.proofs.HeldRows.{length_columns}
use Rattle.tridiagonal.specs.Accepted.{unless_none}

all_rows_of_q_fit : (n l : ℕ) → 0 < n → n ≤ 512 → l ≡ n * n → all_rows_fit n n l ≡ true
all_rows_of_q_fit n l some few e = grind (arith, nat_tests)

-- with a keeper of no rows there are no vectors
pub columns_of_none : {C : Type 0} (d : C) (k : ℕ) → by_columns d [] k ≡ []
unfolding by_columns
columns_of_none d zero = refl
columns_of_none d (suc k) = simp (columns_of_none d k)

module _ {C R : Type 0} (K : Kind C R) (f : Form C R) (tolerance : R) (limit : ℕ) where
  abbrev pub run : Run R
  run = settle_of K.reals K.real (task_of f tolerance) limit

  pub settled_with_none : (w : ℕ) →
      settled_with K (record { width = w; rows = [] }) f tolerance limit ≡ settled_form K false f tolerance limit
  settled_with_none w = ap (λ (v : List C). ended_with K v f run run.answer) (columns_of_none K.ops.zero w)

-- the rows of Q, and what they are turned to
module _ {C R : Type 0} (K : Kind C R) (f : Form C R) where
  abbrev pub held_of_q : Kept C
  held_of_q = record { width = f.side; rows = rows_of_q K f }

  -- Q as it was assembled
  pub assembled : (t s was left : List C) → t ≡ f.table → s ≡ f.signs → None ≡ assemble_refusal f.side t s was →
      left ≡ unless_refused (assemble_refusal f.side t s was) was (matrix_q K f.side (lower f.side 0 f.side t) s) →
      left ≡ matrix_q K f.side (lower f.side 0 f.side f.table) f.signs
  assembled t s was left et es none is =
      cc (is, unless_none (assemble_refusal f.side t s was) was (matrix_q K f.side (lower f.side 0 f.side t) s) (sym none))

  -- a keeper of Q's cells holds its rows
  pub rows_held : Fits f → (side : ℕ) (q : List C) (k : Kept C) → side ≡ f.side →
      q ≡ matrix_q K f.side (lower f.side 0 f.side f.table) f.signs → length q ≡ side * side →
      k ≡ all_rows K.ops.zero side side q → k ≡ held_of_q
  rows_held fits side q k es eq el ek =
      let fit = all_rows_of_q_fit f.side (length q) fits.some fits.few (el ∙ ap (λ (n : ℕ). n * n) es) in
      cc (all_rows_held K.ops.zero f.side f.side q fit)

  pub settled_with_q : (tolerance : R) (limit : ℕ) (k : Kept C) → k ≡ held_of_q →
      settled_with K k f tolerance limit ≡ settled_form K true f tolerance limit
  settled_with_q tolerance limit k ek = ap (λ (h : Kept C). settled_with K h f tolerance limit) ek

  pub count_of_q : length (rows_of_q K f) ≡ f.side
  count_of_q =
      length-map-range_with_len (row_of K.ops.zero f.side f.side (matrix_q K f.side (lower f.side 0 f.side f.table) f.signs)) 0 f.side

-- after a run, as many entries as the width times the rows
pub count_columns : {C R : Type 0} (K : Kind C R) (s : Start C R) (limit : ℕ) (f : Finish C R) (cells : List C) →
    IsRun K.ops K.reals K.real s limit f → cells ≡ columns_kept K f.kept → length cells ≡ s.kept.width * length s.kept.rows
count_columns K s limit f cells ran ec =
    let turns = (settle_of K.reals K.real (start_task s) limit).turns in
    ap length ec ∙ ap (λ (h : Kept _). length (columns_kept K h)) ran.kept
    ∙ length_columns K.ops.zero (map (turned_all K.ops turns) s.kept.rows) s.kept.width
    ∙ ap (λ (l : ℕ). s.kept.width * l) (length-map s.kept.rows (turned_all K.ops turns))
