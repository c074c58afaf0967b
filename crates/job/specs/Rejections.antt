-- Why a typed command is refused, each with the number and the values that it bears. Definitions only.
use Rattle.std.specs.Prelude.{[], Some, None, Ok, Err, Option, Result}
use Rattle.fault.specs.Refusals.{Refusal, refused, refusal}
use Rattle.job.specs.declared.rejected.Rejected.{Rejected}
use Rattle.job.specs.declared.rejected.Rejected.TheVariants.{Solver, Operand, Twice}

abbrev pub rejection : Rejected → Refusal
rejection (Solver fault) = refusal fault
rejection Operand = refused 13 []
rejection Twice = refused 14 []

-- the refusal in an answer, if it is one
abbrev pub reported : Result (Unit {0}) Rejected → Option Refusal
reported (Ok done) = None
reported (Err why) = Some (rejection why)
