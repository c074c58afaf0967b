-- A sheet, read byte by byte. Definitions only.
use Rattle.std.specs.Prelude.{ℕ, zero, suc, ◌+◌, Bool, true, List, [], ◌∷◌, Some, None, Option}
use Rattle.sheet.specs.Faults.{Why}
use Rattle.sheet.specs.Commands.{Found, nothing, found, wrong, code_of, coded, operand_bytes, saying}
use Rattle.sheet.specs.Desk.{State, idle, Table, After, goes, closes, stops, applying}

-- Reading on until a table is closed: the sheet ends first, the table with the place of the command that closed it and the place
-- after that, or a refusal.
pub data Reading : Type 0 where
  ended : Reading
  closed : Table → (place after : ℕ) → Reading
  broken : Why → (place : ℕ) → Reading

abbrev pub turning : (State → Reading) → ℕ → ℕ → After → Reading
turning on place after (goes st) = on st
turning on place after (closes t) = closed t place after
turning on place after (stops w st) = broken w place

abbrev pub reading : (ℕ → State → Reading) → Bool → ℕ → State → Found → Reading
reading on room place st nothing = ended
reading on room place st (found c os) =
    turning (on (operand_bytes c)) place (place + 1 + operand_bytes c) (applying room st (saying c os))
reading on room place st (wrong w) = broken w place

-- The bytes from a place on, of which the first `skip` are operands of the command before. `room` says whether there is
-- memory for the table.
unfoldable pub table_from : Bool → ℕ → ℕ → State → List ℕ → Reading
table_from room skip place st [] = ended
table_from room (suc skip) place st (byte ∷ rest) = table_from room skip (place + 1) st rest
table_from room zero place st (byte ∷ rest) =
    reading (λ operands st. table_from room operands (place + 1) st rest) room place st (coded (code_of byte) rest)

-- Why a sheet is refused, and the place of the command.
pub record Stop : Type 0 where
  pub why : Why
  pub place : ℕ

abbrev pub stop : Why → ℕ → Stop
stop w p = record { why = w; place = p }

-- A closed table, and the place of the command that closed it.
pub record Closing : Type 0 where
  pub table : Table
  pub place : ℕ

abbrev pub closed_at : Table → ℕ → Closing
closed_at t p = record { table = t; place = p }

-- A whole sheet: the tables that it closes, the desk at its end, and the refusal if there is one.
pub record Run : Type 0 where
  pub tables : List Closing
  pub desk : State
  pub refusal : Option Stop

abbrev pub rests : State → Run
rests st = record { tables = []; desk = st; refusal = None }

abbrev pub closed_then : Closing → Run → Run
closed_then c r = record { tables = c ∷ r.tables; desk = r.desk; refusal = r.refusal }

abbrev pub halts : Why → ℕ → State → Run
halts w place st = record { tables = []; desk = st; refusal = Some (stop w place) }

abbrev pub following : (State → Run) → ℕ → After → Run
following on place (goes st) = on st
following on place (closes t) = closed_then (closed_at t place) (on idle)
following on place (stops w st) = halts w place st

abbrev pub running : (ℕ → State → Run) → ℕ → State → Found → Run
running on place st nothing = rests st
running on place st (found c os) = following (on (operand_bytes c)) place (applying true st (saying c os))
running on place st (wrong w) = halts w place st

-- The bytes from a place on, of which the first `skip` are operands of the command before, where memory suffices.
unfoldable pub run_from : ℕ → ℕ → State → List ℕ → Run
run_from skip place st [] = rests st
run_from (suc skip) place st (byte ∷ rest) = run_from skip (place + 1) st rest
run_from zero place st (byte ∷ rest) =
    running (λ operands st. run_from operands (place + 1) st rest) place st (coded (code_of byte) rest)

abbrev pub run : List ℕ → Run
run bytes = run_from 0 0 idle bytes
