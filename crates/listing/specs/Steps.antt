-- A listing table by table. Definitions only.
use Rattle.std.specs.Prelude.{◌≡◌, ℕ, ◌-◌, ◌<◌, false, List, [], ◌++◌, drop, length, Some, None, Ok, Err, Option, Result, vec_items}
use Rattle.sheet.specs.declared.sheet_fault.Refusal.{Refusal}
use Rattle.sheet.specs.Desk.{idle}
use Rattle.sheet.specs.Faults.{Why, rule, memory, why}
use Rattle.sheet.specs.Laws.{from}
use Rattle.sheet.specs.Sheets.{broken, stop, table_from}
use Rattle.listing.specs.declared.line.Line.{Line}
use Rattle.listing.specs.declared.step.Step.{Step}
use Rattle.listing.specs.Listings.{Listed, Made, lists, fails, solved_read}

-- What becomes of a table by the place of the command that closed it and the place after that. Want of memory leaves it open.
abbrev pub MakesNot : Made → ℕ → Refusal → Why → Type 0
MakesNot m place r (rule known) = (fails (rule known) ≡ m) × (r.place ≡ place)
MakesNot m place r memory = Unit {0}

abbrev pub Makes : Made → ℕ → ℕ → Result Step Refusal → Type 0
Makes m place after (Ok x) = (lists (vec_items x.lines) ≡ m) × (x.after ≡ after)
Makes m place after (Err r) = MakesNot m place r (why r.fault)

-- what is listed from a place on where no table is open
abbrev pub lines_from : List ℕ → ℕ → Listed
lines_from s p = solved_read (from s p)

-- lines before those of a listing
abbrev pub before : List Line → Listed → Listed
before ls l = record { lines = ls ++ l.lines; refusal = l.refusal }

-- a listing that goes no further
abbrev pub ends : Option Refusal → Listed
ends None = record { lines = []; refusal = None }
ends (Some r) = record { lines = []; refusal = Some (stop (why r.fault) r.place) }

-- The sheet opens a table of a lawful kind and side at a place where none is open: without memory it would go no further.
abbrev pub OpensAt : List ℕ → ℕ → Type 0
OpensAt s p = table_from false 0 p idle (drop p s) ≡ broken memory p

-- A refusal is the last of the listing. Want of memory is none, and is told only where a table is opened.
abbrev pub Refuses : List ℕ → ℕ → Refusal → Why → Type 0
Refuses s p r (rule known) = lines_from s p ≡ ends (Some r)
Refuses s p r memory = OpensAt s p

abbrev pub Goes : List ℕ → ℕ → Option Step → Type 0
Goes s p None = lines_from s p ≡ ends None
Goes s p (Some x) =
    (lines_from s p ≡ before (vec_items x.lines) (lines_from s x.after)) × (length s - x.after < length s - p) × OpensAt s p

-- One step of a listing from a place on: it ends, the lines of a table and what is listed from the place after it, with less
-- left to read, or a refusal.
abbrev pub Steps : List ℕ → ℕ → Result (Option Step) Refusal → Type 0
Steps s p (Ok o) = Goes s p o
Steps s p (Err r) = Refuses s p r (why r.fault)
