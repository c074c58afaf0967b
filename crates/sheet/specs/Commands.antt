-- The format of a sheet's commands. Definitions only.
use Rattle.std.specs.Prelude.{ℕ, ◌+◌, cond, List, [], ◌∷◌, length, take, Some, None, Ok, Err, Option, Result, ok_or, ◌==◌, nat_le}
use Rattle.fault.specs.Refusals.{refused}
use Rattle.sheet.specs.declared.command.Code.{Code}
use Rattle.sheet.specs.declared.command.Code.TheVariants as code
use Rattle.sheet.specs.declared.command.Command.{Command}
use Rattle.sheet.specs.declared.command.Command.TheVariants as command
use Rattle.sheet.specs.declared.command.Next.{Next}
use Rattle.sheet.specs.declared.operands.Operands.{Operands}
use Rattle.sheet.specs.declared.sheet_fault.Refusal.{Refusal}
use Rattle.sheet.specs.declared.sheet_fault.SheetFault.{SheetFault}
use Rattle.sheet.specs.declared.sheet_fault.SheetFault.TheVariants as fault
use Rattle.sheet.specs.Bytes.{field}
use Rattle.sheet.specs.Faults.{Why, why, rule}

-- What a command says. A binary64 number is told by its bits.
pub data Said : Type 0 where
  opens : (kind side : ℕ) → Said
  entry : (row column bits : ℕ) → Said
  outline_entry : (row column across along : ℕ) → Said
  tolerance : (bits : ℕ) → Said
  limit : (count : ℕ) → Said
  values : Said
  vectors : Said

-- The command bytes.
abbrev pub code_of : ℕ → Option Code
code_of byte =
    cond (byte == 1) (Some code.Open)
    (cond (byte == 2) (Some code.Entry)
    (cond (byte == 3) (Some code.OutlineEntry)
    (cond (byte == 4) (Some code.Tolerance)
    (cond (byte == 5) (Some code.Limit)
    (cond (byte == 6) (Some code.Values)
    (cond (byte == 7) (Some code.Vectors) None))))))

-- The same as an answer: a byte that begins none is a fault.
abbrev pub code_answer : ℕ → Result Code SheetFault
code_answer byte = ok_or (code_of byte) fault.Command

-- How many operand bytes follow.
abbrev pub operand_bytes : Code → ℕ
operand_bytes code.Open = 3
operand_bytes code.Entry = 12
operand_bytes code.OutlineEntry = 20
operand_bytes code.Tolerance = 8
operand_bytes code.Limit = 4
operand_bytes code.Values = 0
operand_bytes code.Vectors = 0

-- The operands: where each begins, and its width in bytes.
abbrev pub saying : Code → List ℕ → Said
saying code.Open os = opens (field 0 1 os) (field 1 2 os)
saying code.Entry os = entry (field 0 2 os) (field 2 2 os) (field 4 8 os)
saying code.OutlineEntry os = outline_entry (field 0 2 os) (field 2 2 os) (field 4 8 os) (field 12 8 os)
saying code.Tolerance os = tolerance (field 0 8 os)
saying code.Limit os = limit (field 0 4 os)
saying code.Values os = values
saying code.Vectors os = vectors

-- What stands at the front of the bytes that are left: nothing, a command with its operand bytes, or a fault.
pub data Found : Type 0 where
  nothing : Found
  found : Code → (operands : List ℕ) → Found
  wrong : Why → Found

abbrev pub with_operands : Code → List ℕ → Found
with_operands c rest =
    cond (nat_le (operand_bytes c) (length rest))
    (found c (take (operand_bytes c) rest))
    (wrong (rule (refused 11 [])))

abbrev pub coded : Option Code → List ℕ → Found
coded None rest = wrong (rule (refused 10 []))
coded (Some c) rest = with_operands c rest

abbrev pub decode : List ℕ → Found
decode [] = nothing
decode (byte ∷ rest) = coded (code_of byte) rest

-- The same with its place.
pub data Stepped : Type 0 where
  end : Stepped
  next : (place : ℕ) → Code → (operands : List ℕ) → (after : ℕ) → Stepped
  refuses : Why → (place : ℕ) → Stepped

abbrev pub at : ℕ → Found → Stepped
at place nothing = end
at place (found c os) = next place c os (place + 1 + operand_bytes c)
at place (wrong w) = refuses w place

-- What the code's values mean.
abbrev pub code_in : Command → Code
code_in (command.Open os) = code.Open
code_in (command.Entry os) = code.Entry
code_in (command.OutlineEntry os) = code.OutlineEntry
code_in (command.Tolerance os) = code.Tolerance
code_in (command.Limit os) = code.Limit
code_in (command.Values os) = code.Values
code_in (command.Vectors os) = code.Vectors

abbrev pub operands_in : Command → Operands
operands_in (command.Open os) = os
operands_in (command.Entry os) = os
operands_in (command.OutlineEntry os) = os
operands_in (command.Tolerance os) = os
operands_in (command.Limit os) = os
operands_in (command.Values os) = os
operands_in (command.Vectors os) = os

abbrev pub said : Command → Said
said c = saying (code_in c) (operands_in c).bytes.now

abbrev pub next_of : Option Next → Stepped
next_of None = end
next_of (Some n) = next (operands_in n.command).place (code_in n.command) (operands_in n.command).bytes.now n.after

abbrev pub stepped : Result (Option Next) Refusal → Stepped
stepped (Ok o) = next_of o
stepped (Err r) = refuses (why r.fault) r.place
