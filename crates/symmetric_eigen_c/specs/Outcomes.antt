-- What a call answers, and what it tells of a refusal. Definitions only.
use Rattle.std.specs.Prelude.{ℕ, Bool, true, false, not, List, [], ◌∷◌, Some, None, Ok, Err, Option, Result, ◌==◌}
use Rattle.fault.specs.Refusals.{Refusal, refused, refusal}
use Rattle.decomposition.specs.declared.failure.Failure.{Failure}
use Rattle.decomposition.specs.declared.failure.Failure.TheVariants.{Solver, Memory}
use Rattle.symmetric_eigen_c.specs.declared.outcome.Outcome.{Outcome}

-- the work was done, in so many passes
abbrev pub done_in : ℕ → Outcome
done_in passes = record { number = 0; count = passes; row = 0; column = 0 }

abbrev pub memory_wanting : Outcome
memory_wanting = record { number = 255; count = 0; row = 0; column = 0 }

-- a refusal that bears two values bears a row and a column, and one that bears one a count
abbrev pub told_with : ℕ → List ℕ → Outcome
told_with number [] = record { number = number; count = 0; row = 0; column = 0 }
told_with number (count ∷ []) = record { number = number; count = count; row = 0; column = 0 }
told_with number (row ∷ (column ∷ rest)) = record { number = number; count = 0; row = row; column = column }

abbrev pub told : Refusal → Outcome
told why = told_with why.number why.values

abbrev pub told_unless_none : Option Refusal → Outcome
told_unless_none None = done_in 0
told_unless_none (Some why) = told why

-- Whether the answer is other than want of memory. This tests the answer and not the memory: where side and lengths fit, want of memory
-- is open on every input.
abbrev pub had_room : Outcome → Bool
had_room o = not (o.number == 255)

-- the refusal, or none; 255 is none of the solver's
abbrev pub failed_in : {A : Type 0} → Result A Failure → Option Refusal
failed_in (Ok a) = None
failed_in (Err (Solver fault)) = Some (refusal fault)
failed_in (Err Memory) = Some (refused 255 [])

-- The same of what is answered inside: the answer is tested, and not the memory.
abbrev pub had_memory : {A : Type 0} → Result A Failure → Bool
had_memory (Ok a) = true
had_memory (Err (Solver fault)) = true
had_memory (Err Memory) = false
