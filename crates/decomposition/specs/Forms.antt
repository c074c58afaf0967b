-- What the steps of a decomposition hand on. Definitions only.
use Rattle.std.specs.Prelude.{◌≡◌, ℕ, ◌-◌, ◌*◌, ◌<◌, ◌≤◌, false, List, length, Some, None, Ok, Err, vec_items, Result}
use Rattle.fault.specs.Refusals.{refusal}
use Rattle.tridiagonal.specs.Checks.{side_refused}
use Rattle.tridiagonal.specs.Householder.{Kind}
use Rattle.decomposition.specs.declared.failure.Failure.{Failure}
use Rattle.decomposition.specs.declared.failure.Failure.TheVariants.{Solver, Memory}
use Rattle.decomposition.specs.declared.form.Form.{Form as Held}
use Rattle.decomposition.specs.declared.solved.Solved.{Solved}
use Rattle.decomposition.specs.Solutions.{Form, reduced_form, table_refusal}

module _ {C R : Type 0} where
  abbrev pub form_of : Held C R → Form C R
  form_of h = record {
    side = h.reduction.side;
    largest = h.reduction.largest;
    table = vec_items h.table;
    values = vec_items h.values;
    offs = vec_items h.offs;
    signs = vec_items h.signs;
  }

  -- the lengths that the side asks for
  pub record Fits (f : Form C R) : Type 0 where
    pub some : 0 < f.side
    pub few : f.side ≤ 512
    pub table : length f.table ≡ f.side * f.side
    pub values : length f.values ≡ f.side
    pub offs : length f.offs ≡ f.side - 1
    pub signs : length f.signs ≡ f.side - 1

  -- a form that fits, a refusal, or want of memory, which is told of a side and a length that fit alone
  abbrev pub Reduces : Kind C R → ℕ → List C → Result (Held C R) Failure → Type 0
  Reduces K n t (Ok h) = (table_refusal K n t ≡ None) × (form_of h ≡ reduced_form K n t) × Fits (form_of h)
  Reduces K n t (Err (Solver fault)) = table_refusal K n t ≡ Some (refusal fault)
  Reduces K n t (Err Memory) = (side_refused n ≡ false) × (length t ≡ n * n)

  -- how many values and how many entries of vectors are given
  pub record Counts (m k : ℕ) (s : Solved C R) : Type 0 where
    pub values : length (vec_items s.values) ≡ m
    pub vectors : length (vec_items s.vectors) ≡ k
