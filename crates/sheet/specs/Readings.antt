-- What the reader's answers mean. Definitions only.
use Rattle.std.specs.Prelude.{Bool, true, Some, None, Ok, Err, Option, Result}
use Rattle.sheet.specs.declared.sheet_fault.Refusal.{Refusal}
use Rattle.sheet.specs.declared.reading.Reading.{Reading as Answer}
use Rattle.sheet.specs.Faults.{why}
use Rattle.sheet.specs.Desk.{room_for, table_of}
use Rattle.sheet.specs.Sheets.{Reading, ended, closed, broken}

abbrev pub answer_of : Option Answer → Reading
answer_of None = ended
answer_of (Some a) = closed (table_of a.table) a.place a.after

abbrev pub reading_of : Result (Option Answer) Refusal → Reading
reading_of (Ok o) = answer_of o
reading_of (Err r) = broken (why r.fault) r.place

-- Whether the answer is other than want of memory. It tests the answer and not the memory: want of memory is open wherever the sheet
-- opens a table of a lawful kind and side.
abbrev pub had_room : Reading → Bool
had_room ended = true
had_room (closed t place after) = true
had_room (broken w place) = room_for w
