-- What a keeper of rows holds, and what its calls answer. Definitions only.
use Rattle.std.specs.Prelude.{◌≡◌, ℕ, zero, suc, ◌+◌, ◌≤◌, Bool, cond, List, [], ◌∷◌, All, map, length, Ok, Err, Result, nat_lt}
use Rattle.scalar.specs.Ops.{Ops}
use Rattle.fault.specs.declared.Fault.{Fault}
use Rattle.fault.specs.Refusals.{Refusal, refused, refusal}
use Rattle.rows.specs.Turns.{Turn, turned}

-- a width and a list of rows of that width
pub record Kept (C : Type 0) : Type 0 where
  pub width : ℕ
  pub rows : List (List C)

-- at most 65,536 rows, each of the width
pub record Sound {C : Type 0} (k : Kept C) : Type 0 where
  pub few : length k.rows ≤ 65536
  pub even : All (λ row. length row ≡ k.width) k.rows

-- what a call answers: a value, or a refusal with its number
pub data Answer (A : Type 0) : Type 0 where
  given : A → Answer A
  denied : Refusal → Answer A

abbrev pub answered : {A : Type 0} → Result A Fault → Answer A
answered (Ok x) = given x
answered (Err e) = denied (refusal e)

abbrev pub outside : {A : Type 0} → Answer A
outside = denied (refused 9 [])

-- the number at a place of a row, and at a row and a column; refused 9 outside
abbrev pub read_at : {C : Type 0} → List C → ℕ → Answer C
read_at [] i = outside
read_at (x ∷ xs) zero = given x
read_at (x ∷ xs) (suc i) = read_at xs i

abbrev pub cell_at : {C : Type 0} → List (List C) → ℕ → ℕ → Answer C
cell_at [] r i = outside
cell_at (row ∷ rows) zero i = read_at row i
cell_at (row ∷ rows) (suc r) i = cell_at rows r i

-- whether a turn of the columns i and i + 1 lies inside the width
abbrev pub inside : {C : Type 0} → Kept C → ℕ → Bool
inside k i = nat_lt (i + 1) k.width

abbrev pub kept_turned : {C R : Type 0} → Ops C R → Turn R → Kept C → Kept C
kept_turned ops t k = cond (inside k t.column) (record { width = k.width; rows = map (turned ops t) k.rows }) k

abbrev pub turn_answer : {C : Type 0} → Kept C → ℕ → Answer (Unit {0})
turn_answer k i = cond (inside k i) (given tt) outside
