-- The kinds of table, and the numbers that a sheet tells them by. Definitions only.
use Rattle.std.specs.Prelude.{◌≡◌, ℕ, ◌<◌, Result, MatchResult}
use Rattle.sheet.specs.declared.kind.Kind.{Kind}
use Rattle.sheet.specs.declared.kind.Kind.TheVariants.{Real, Outline}
use Rattle.sheet.specs.declared.sheet_fault.SheetFault.{SheetFault}
use Rattle.sheet.specs.declared.sheet_fault.SheetFault.TheVariants.{Operand}

abbrev pub kind_number : Kind → ℕ
kind_number Real = 0
kind_number Outline = 1

-- The kind with this number, or a wrong operand where none has it.
abbrev pub IsKind : ℕ → Result Kind SheetFault → Type 0
IsKind byte r = MatchResult r (λ kind. byte ≡ kind_number kind) (λ fault. (fault ≡ Operand) × (1 < byte))
