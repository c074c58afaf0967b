-- What settling answers, and what it hands back. Definitions only.
use Rattle.std.specs.Prelude.{ℕ, Some, None, Ok, Err, Option, Result}
use Rattle.fault.specs.Refusals.{refusal}
use Rattle.fault.specs.declared.Fault.{Fault}
use Rattle.rows.specs.Keepers.{Answer, given, denied}
use Rattle.eigen.specs.declared.ends.Unsettled.{Unsettled}
use Rattle.eigen.specs.declared.ends.Unsettled.TheVariants.{Refused, Ended}

-- the refusal, whether the reduction is handed back or not
abbrev pub fault_of : {R : Type 0} → Unsettled R → Fault
fault_of (Refused fault reduction) = fault
fault_of (Ended fault) = fault

abbrev pub answer_of : {R : Type 0} → Result ℕ (Unsettled R) → Answer ℕ
answer_of (Ok passes) = given passes
answer_of (Err why) = denied (refusal (fault_of why))

-- the reduction, by its side and largest size, where it is handed back
abbrev pub handed_back : {R : Type 0} → Result ℕ (Unsettled R) → Option (ℕ × R)
handed_back (Ok passes) = None
handed_back (Err (Refused fault reduction)) = Some (reduction.side, reduction.largest)
handed_back (Err (Ended fault)) = None

-- it is where the checks refuse
abbrev pub back_from : {A R : Type 0} → Answer A → ℕ → R → Option (ℕ × R)
back_from (given x) side largest = None
back_from (denied why) side largest = Some (side, largest)
