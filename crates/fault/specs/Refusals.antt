-- The solver's refusals, each with the number and the values that it bears. Definitions only.
use Rattle.std.specs.Prelude.{ℕ, List, [], ◌∷◌}
use Rattle.fault.specs.declared.Fault.{Fault}
use Rattle.fault.specs.declared.Fault.TheVariants.{Side, Length, Entry, Tolerance, Limit, Width, NotSettled, Pair, Column}

pub record Refusal : Type 0 where
  pub number : ℕ
  pub values : List ℕ

abbrev pub refused : ℕ → List ℕ → Refusal
refused n vs = record { number = n; values = vs }

abbrev pub refusal : Fault → Refusal
refusal Side = refused 1 []
refusal Length = refused 2 []
refusal (Entry row column) = refused 3 (row ∷ (column ∷ []))
refusal Tolerance = refused 4 []
refusal Limit = refused 5 []
refusal Width = refused 6 []
refusal (NotSettled count) = refused 7 (count ∷ [])
refusal (Pair count) = refused 8 (count ∷ [])
refusal Column = refused 9 []
