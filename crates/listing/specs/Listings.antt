-- What a sheet lists: the lines of its tables, each solved in its turn, and its refusal. Definitions only.
use Rattle.std.specs.Prelude.{ℕ, ◌/◌, ◌%◌, Bool, true, false, cond, List, [], ◌∷◌, ◌++◌, map, length, Some, None, Ok, Err, vec_items, Option, Result, nat_lt, to_bits, Float}
use Rattle.std.specs.Float.{binary64}
use Rattle.std.specs.List.{enumerate_from}
use Rattle.std.specs.declared.vec.Vec.{Vec}
use Rattle.fault.specs.Refusals.{refused, refusal}
use Rattle.tridiagonal.specs.Householder.{Kind}
use Rattle.decomposition.specs.declared.failure.Failure.{Failure}
use Rattle.decomposition.specs.declared.failure.Failure.TheVariants.{Solver, Memory}
use Rattle.decomposition.specs.Kinds.{r64, c64}
use Rattle.decomposition.specs.Solutions.{Eigen, Solution, solved, failed, starved, solution}
use Rattle.job.specs.Typed.{Typed, entries}
use Rattle.sheet.specs.declared.desk.Asked.{Asked}
use Rattle.sheet.specs.declared.desk.Asked.TheVariants.{Values, Vectors}
use Rattle.sheet.specs.declared.sheet_fault.Refusal.{Refusal}
use Rattle.sheet.specs.declared.sheet_fault.SheetFault.{SheetFault}
use Rattle.sheet.specs.Desk.{Table, real_table, outline_table, room_for}
use Rattle.sheet.specs.Faults.{Why, rule, memory, why}
use Rattle.sheet.specs.Laws.{Read, read_of}
use Rattle.sheet.specs.Sheets.{Closing, Stop, stop, run}
use Rattle.listing.specs.declared.line.Line.{Line}
use Rattle.listing.specs.declared.line.Line.TheVariants.{Heading, Value}
use Rattle.listing.specs.declared.listing.Listing.{Listing}
use Rattle.listing.specs.Shown.{ShownAs, reals_shown, outlines_shown}

abbrev pub value_line : ℕ → Float → Line
value_line index x = Value index (to_bits binary64 x)

-- A line for each value.
abbrev pub value_lines : List Float → List Line
value_lines values = map (λ p. value_line p.0 p.1) (enumerate_from 0 values)

module _ {C : Type 0} (S : ShownAs C) where
  -- A line for each entry of a matrix of this many rows, which stands column by column: the entry at place k is that of row
  -- k % rows and column k / rows.
  abbrev pub entry_lines : ℕ → List C → List Line
  entry_lines rows cells = map (λ p. S.line (p.0 % rows) (p.0 / rows) p.1) (enumerate_from 0 cells)

  -- A solved table: its heading, a line for each value, and one for each entry of its vectors.
  abbrev pub solved_lines : ℕ → Float → Eigen C Float → List Line
  solved_lines side largest e =
      Heading S.kind side (to_bits binary64 largest) e.passes ∷
      (value_lines e.values ++ entry_lines side e.vectors)

-- What becomes of a closed table: its lines, or why it is refused.
pub data Made : Type 0 where
  lists : List Line → Made
  fails : Why → Made

abbrev pub wants_vectors : Asked → Bool
wants_vectors Values = false
wants_vectors Vectors = true

-- 06 solves a table for its values, 07 for its vectors too.
abbrev pub solution_of_typed : {C : Type 0} → Kind C Float → Asked → Typed C Float → Solution C Float
solution_of_typed K asked j = solution K (wants_vectors asked) j.side (entries K.ops j) j.tolerance j.limit

module _ {C : Type 0} (S : ShownAs C) where
  abbrev pub made_from : ℕ → Float → Solution C Float → Made
  made_from side largest (solved e) = lists (solved_lines S side largest e)
  made_from side largest (failed why) = fails (rule why)
  made_from side largest starved = fails memory

  abbrev pub made_of_typed : Kind C Float → Asked → Typed C Float → Made
  made_of_typed K asked j = made_from j.side j.largest (solution_of_typed K asked j)

abbrev pub made_of_table : Table → Made
made_of_table (real_table asked j) = made_of_typed reals_shown r64 asked j
made_of_table (outline_table asked j) = made_of_typed outlines_shown c64 asked j

pub record Listed : Type 0 where
  pub lines : List Line
  pub refusal : Option Stop

-- A table that is refused ends the listing, with the place of the command that closed it.
abbrev pub onward : ℕ → Made → Listed → Listed
onward place (lists ls) rest = record { lines = ls ++ rest.lines; refusal = rest.refusal }
onward place (fails w) rest = record { lines = []; refusal = Some (stop w place) }

abbrev pub in_turn : List Closing → Option Stop → Listed
in_turn [] refusal = record { lines = []; refusal = refusal }
in_turn (c ∷ cs) refusal = onward c.place (made_of_table c.table) (in_turn cs refusal)

-- What is listed of what is read: table by table, and then the refusal of the reader.
abbrev pub solved_read : Read → Listed
solved_read r = in_turn r.tables r.refusal

abbrev pub lines : List ℕ → Listed
lines bytes = solved_read (read_of (run bytes))

-- A sheet of more bytes than this is refused as a whole.
abbrev pub longest : ℕ
longest = 32768

abbrev pub too_long : Listed
too_long = record { lines = []; refusal = Some (stop (rule (refused 2 [])) 0) }

abbrev pub listed : List ℕ → Listed
listed bytes = cond (nat_lt longest (length bytes)) too_long (lines bytes)

-- What the code's values mean.
abbrev pub stop_of : Option Refusal → Option Stop
stop_of None = None
stop_of (Some r) = Some (stop (why r.fault) r.place)

abbrev pub listing_of : Listing → Listed
listing_of l = record { lines = vec_items l.lines; refusal = stop_of l.refusal }

abbrev pub failure_of : Failure → Why
failure_of (Solver fault) = rule (refusal fault)
failure_of Memory = memory

abbrev pub made_of : {A : Type 0} → Result (Vec Line A) SheetFault → Made
made_of (Ok v) = lists (vec_items v)
made_of (Err fault) = fails (why fault)

-- Whether the answer is other than want of memory. It tests the answer and not the memory: want of memory is open on every table.
abbrev pub had_room : Made → Bool
had_room (lists ls) = true
had_room (fails w) = room_for w

-- what becomes of a table, or want of memory
abbrev pub given_room : Bool → Made → Made
given_room room m = cond room m (fails memory)
