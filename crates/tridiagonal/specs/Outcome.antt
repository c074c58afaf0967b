-- What a call answers, and what it leaves where it refuses. Definitions only.
use Rattle.std.specs.Prelude.{◌≡◌, ℕ, List, length, Some, None, Ok, Err, Option, Result}
use Rattle.fault.specs.declared.Fault.{Fault}
use Rattle.fault.specs.Refusals.{Refusal, refusal}
use Rattle.tridiagonal.specs.declared.reduction.Reduction.{Reduction}

-- A reduction by its side and its largest size, or a refusal by its number and values.
pub data Outcome (R : Type 0) : Type 0 where
  Reduced : ℕ → R → Outcome R
  Refused : Refusal → Outcome R

abbrev pub outcome_of : {R : Type 0} → Result (Reduction R) Fault → Outcome R
outcome_of (Ok reduction) = Reduced reduction.side reduction.largest
outcome_of (Err fault) = Refused (refusal fault)

abbrev pub reduce_outcome : {R : Type 0} → Option Refusal → ℕ → R → Outcome R
reduce_outcome None n largest = Reduced n largest
reduce_outcome (Some why) n largest = Refused why

-- what a check answers: a refusal, or none
abbrev pub refused_in : {A : Type 0} → Result A Fault → Option Refusal
refused_in (Ok a) = None
refused_in (Err fault) = Some (refusal fault)

-- A buffer whose content is left open: only that it keeps its length is said, or what it held where there is a refusal.
abbrev pub LeftOpen : {A : Type 0} → Option Refusal → List A → List A → Type 0
LeftOpen None was now = length now ≡ length was
LeftOpen (Some why) was now = now ≡ was

-- A refusal leaves what was there.
abbrev pub unless_refused : {A : Type 0} → Option Refusal → A → A → A
unless_refused None was made = made
unless_refused (Some why) was made = was
