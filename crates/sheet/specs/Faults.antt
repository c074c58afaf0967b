-- What a sheet's refusals are known by, each with its number and the values that it bears. Definitions only.
use Rattle.std.specs.Prelude.{ℕ, [], Some, None, Option}
use Rattle.fault.specs.Refusals.{Refusal as Known, refused, refusal}
use Rattle.job.specs.declared.rejected.Unopened.{Unopened}
use Rattle.job.specs.declared.rejected.Unopened.TheVariants as un
use Rattle.sheet.specs.declared.sheet_fault.Refusal.{Refusal}
use Rattle.sheet.specs.declared.sheet_fault.SheetFault.{SheetFault}
use Rattle.sheet.specs.declared.sheet_fault.SheetFault.TheVariants.{Solver, Command, Cut, Order, Operand, Twice, Memory}

-- A rule that a sheet breaks, or want of memory, which is no rule's.
pub data Why : Type 0 where
  rule : Known → Why
  memory : Why

abbrev pub why : SheetFault → Why
why (Solver fault) = rule (refusal fault)
why Command = rule (refused 10 [])
why Cut = rule (refused 11 [])
why Order = rule (refused 12 [])
why Operand = rule (refused 13 [])
why Twice = rule (refused 14 [])
why Memory = memory

-- Why a table is not opened.
abbrev pub unopened : Unopened → Why
unopened un.Operand = rule (refused 13 [])
unopened un.Memory = memory

abbrev pub numbered : Why → Option ℕ
numbered (rule known) = Some known.number
numbered memory = None

abbrev pub number_of : SheetFault → Option ℕ
number_of fault = numbered (why fault)

-- A refusal of the command at a place.
abbrev pub refusal_at : SheetFault → ℕ → Refusal
refusal_at fault place = record { fault = fault; place = place }
