-- The desk of a sheet, and what each command makes of it. Definitions only.
use Rattle.std.specs.Prelude.{ℕ, Bool, true, false, cond, not, ◌&&◌, [], Some, None, Ok, Err, Option, Result, ◌==◌, from_bits, Float}
use Rattle.std.specs.Float.{binary64}
use Rattle.fault.specs.Refusals.{Refusal as Known, refused}
use Rattle.scalar.specs.Ops.{Ops, RealOps}
use Rattle.scalar.specs.FloatOps.{float_ops, float_real}
use Rattle.scalar.specs.ComplexOps.{complex_ops, complex_of}
use Rattle.scalar.specs.declared.point.Complex.{Complex}
use Rattle.job.specs.Shown.{typed}
use Rattle.job.specs.Typed.{Typed, Outcome, putting, tolerating, limiting}
use Rattle.job.specs.Opening.{Opening, made, declined, starved, opened}
use Rattle.sheet.specs.declared.desk.Asked.{Asked}
use Rattle.sheet.specs.declared.desk.Asked.TheVariants.{Values, Vectors}
use Rattle.sheet.specs.declared.desk.Desk.{Desk}
use Rattle.sheet.specs.declared.desk.Table.{Table as Open}
use Rattle.sheet.specs.declared.desk.Table.TheVariants as table
use Rattle.sheet.specs.declared.desk.Closed.{Closed}
use Rattle.sheet.specs.declared.desk.Applied.{Applied}
use Rattle.sheet.specs.declared.desk.Applied.TheVariants as applied
use Rattle.sheet.specs.declared.desk.Stopped.{Stopped}
use Rattle.sheet.specs.declared.sheet_fault.SheetFault.{SheetFault}
use Rattle.sheet.specs.Faults.{Why, why, rule, memory}
use Rattle.sheet.specs.Commands.{Said, opens, entry, outline_entry, tolerance, limit, values, vectors}

-- The two kinds: binary64, with the rules of a real kind besides, and complex numbers over it.
abbrev pub reals : Ops Float Float
reals = float_ops binary64

abbrev pub real_rules : RealOps Float
real_rules = float_real binary64

abbrev pub outlines : Ops (Complex Float) Float
outlines = complex_ops reals real_rules

pub data State : Type 0 where
  idle : State
  real : Typed Float Float → State
  outline : Typed (Complex Float) Float → State

-- A table that was closed, and what was asked of it.
pub data Table : Type 0 where
  real_table : Asked → Typed Float Float → Table
  outline_table : Asked → Typed (Complex Float) Float → Table

-- The desk after a command, a closed table, or a refusal with the desk.
pub data After : Type 0 where
  goes : State → After
  closes : Table → After
  stops : Why → State → After

abbrev pub out_of_order : State → After
out_of_order st = stops (rule (refused 12 [])) st

abbrev pub wrong_operand : State → After
wrong_operand st = stops (rule (refused 13 [])) st

-- What typing came to, on the desk after.
abbrev pub typing : Option Known → State → After
typing None st = goes st
typing (Some known) st = stops (rule known) st

abbrev pub on_real : Outcome Float Float → After
on_real o = typing o.0 (real o.1)

abbrev pub on_outline : Outcome (Complex Float) Float → After
on_outline o = typing o.0 (outline o.1)

abbrev pub starting : {C : Type 0} → (Typed C Float → State) → Opening C Float → After
starting st (made j) = goes (st j)
starting st (declined known) = stops (rule known) idle
starting st starved = stops memory idle

-- 01: a kind and a side, only while no table is open. `room` says whether there is memory for a table.
abbrev pub starting_kind : Bool → ℕ → ℕ → After
starting_kind room kind side =
    cond (kind == 0) (starting real (opened reals side room))
    (cond (kind == 1) (starting outline (opened outlines side room)) (wrong_operand idle))

abbrev pub starts : Bool → State → ℕ → ℕ → After
starts room idle kind side = starting_kind room kind side
starts room (real j) kind side = out_of_order (real j)
starts room (outline j) kind side = out_of_order (outline j)

-- 02: an entry of a real table.
abbrev pub enters : State → ℕ → ℕ → Float → After
enters idle row column x = out_of_order idle
enters (real j) row column x = on_real (putting reals real_rules j row column x)
enters (outline j) row column x = out_of_order (outline j)

-- 03: an entry of an outline table; on the diagonal its second part is zero, of either sign.
abbrev pub off_real : ℕ → ℕ → Float → Bool
off_real row column along = row == column && not (reals.is_zero along)

abbrev pub enters_outline : State → ℕ → ℕ → Float → Float → After
enters_outline idle row column across along = out_of_order idle
enters_outline (real j) row column across along = out_of_order (real j)
enters_outline (outline j) row column across along =
    cond (off_real row column along) (wrong_operand (outline j))
    (on_outline (putting outlines real_rules j row column (complex_of across along)))

-- 04 and 05: the tolerance and the limit.
abbrev pub tolerates : State → Float → After
tolerates idle t = out_of_order idle
tolerates (real j) t = on_real (tolerating j t)
tolerates (outline j) t = on_outline (tolerating j t)

abbrev pub limits : State → ℕ → After
limits idle n = out_of_order idle
limits (real j) n = on_real (limiting j n)
limits (outline j) n = on_outline (limiting j n)

-- 06 and 07: the table is closed.
abbrev pub closing : State → Asked → After
closing idle asked = out_of_order idle
closing (real j) asked = closes (real_table asked j)
closing (outline j) asked = closes (outline_table asked j)

abbrev pub applying : Bool → State → Said → After
applying room st (opens kind side) = starts room st kind side
applying room st (entry row column bits) = enters st row column (from_bits binary64 bits)
applying room st (outline_entry row column across along) =
    enters_outline st row column (from_bits binary64 across) (from_bits binary64 along)
applying room st (tolerance bits) = tolerates st (from_bits binary64 bits)
applying room st (limit count) = limits st count
applying room st values = closing st Values
applying room st vectors = closing st Vectors

-- What the code's values mean.
abbrev pub state_of : Open → State
state_of (table.Real job) = real (typed job)
state_of (table.Outline job) = outline (typed job)

abbrev pub open_of : Option Open → State
open_of None = idle
open_of (Some t) = state_of t

abbrev pub desk_of : Desk → State
desk_of d = open_of d.table

abbrev pub asked_of : Asked → Open → Table
asked_of asked (table.Real job) = real_table asked (typed job)
asked_of asked (table.Outline job) = outline_table asked (typed job)

abbrev pub table_of : Closed → Table
table_of c = asked_of c.asked c.table

abbrev pub applied_of : Applied → After
applied_of (applied.Goes d) = goes (desk_of d)
applied_of (applied.Closes c) = closes (table_of c)

abbrev pub after_of : Result Applied Stopped → After
after_of (Ok a) = applied_of a
after_of (Err s) = stops (why s.fault) (desk_of s.desk)

-- An opened table on the desk, or why there is none.
abbrev pub begun : Result Open SheetFault → After
begun (Ok t) = goes (state_of t)
begun (Err fault) = stops (why fault) idle

-- Whether a refusal is other than want of memory. It tests the answer and not the memory: want of memory is open wherever a table
-- is opened of a lawful kind and side.
abbrev pub room_for : Why → Bool
room_for (rule known) = true
room_for memory = false

-- The same of what a command comes to.
abbrev pub roomy : After → Bool
roomy (goes st) = true
roomy (closes t) = true
roomy (stops w st) = room_for w
