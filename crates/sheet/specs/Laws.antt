-- Laws over whole sheets. Definitions only.
use Rattle.std.specs.Prelude.{◌≡◌, ℕ, ◌+◌, true, List, [], ◌∷◌, ◌++◌, map, length, drop, Some, None, Option, ◌≢◌}
use Rattle.std.specs.List.{AllByRecursion}
use Rattle.fault.specs.Refusals.{refused}
use Rattle.job.specs.Gathered.{Gathered}
use Rattle.sheet.specs.Faults.{Why, rule}
use Rattle.sheet.specs.Desk.{After, goes, closes, stops, State, idle, Table, real_table, outline_table, reals, outlines, real_rules}
use Rattle.sheet.specs.Sheets.{Reading, ended, closed, broken, table_from, Closing, closed_at, Run, Stop, stop, run_from, run}

-- Every table that a sheet closes has the conjugates of its entries above the diagonal, and the largest size that was
-- gathered as it was typed is that of the whole table, taken entry by entry in column order.
abbrev pub gathered_table : Table → Type 0
gathered_table (real_table asked j) = Gathered reals real_rules j
gathered_table (outline_table asked j) = Gathered outlines real_rules j

abbrev pub gathered_reading : Reading → Type 0
gathered_reading ended = Unit {0}
gathered_reading (closed t place after) = gathered_table t
gathered_reading (broken w place) = Unit {0}

abbrev pub Gathers : List ℕ → Type 0
Gathers s = AllByRecursion (λ c. gathered_table c.table) (run s).tables

-- A refused command changes nothing.
abbrev pub Unchanged : State → After → Type 0
Unchanged st (goes st') = Unit {0}
Unchanged st (closes t) = Unit {0}
Unchanged st (stops w st') = st' ≡ st

-- What follows a refused command does not matter. (A command that is cut off is another one when more bytes follow.)
abbrev pub cut_off : Why
cut_off = rule (refused 11 [])

abbrev pub Final : List ℕ → Type 0
Final s = (t : List ℕ) (x : Stop) → (run s).refusal ≡ Some x → (x.why ≢ cut_off) → run (s ++ t) ≡ run s

-- Whatever follows a sheet, its tables are the first of the longer one.
pub record Begins (r whole : Run) : Type 0 where
  pub others : List Closing
  pub tables : whole.tables ≡ r.tables ++ others

abbrev pub Kept : List ℕ → Type 0
Kept s = (t : List ℕ) → Begins (run s) (run (s ++ t))

-- A sheet that closes all its tables, and a second one behind it: the first's tables and then the second's, whose closing
-- commands and refusal stand later by the first's length.
pub record ClosesAll (r : Run) : Type 0 where
  pub none_open : r.desk ≡ idle
  pub unrefused : r.refusal ≡ None

abbrev pub later : ℕ → Option Stop → Option Stop
later n None = None
later n (Some x) = Some (stop x.why (n + x.place))

abbrev pub closed_later : ℕ → Closing → Closing
closed_later n c = closed_at c.table (n + c.place)

abbrev pub joined : Run → ℕ → Run → Run
joined a n b = record { tables = a.tables ++ map (closed_later n) b.tables; desk = b.desk; refusal = later n b.refusal }

abbrev pub Joins : List ℕ → Type 0
Joins s = (t : List ℕ) → ClosesAll (run s) → run (s ++ t) ≡ joined (run s) (length s) (run t)

-- What is read of a sheet: its closed tables and its refusal.
pub record Read : Type 0 where
  pub tables : List Closing
  pub refusal : Option Stop

abbrev pub read_of : Run → Read
read_of r = record { tables = r.tables; refusal = r.refusal }

-- A sheet closes its tables one by one: from any place where none is open, the next table and then what is read from the place
-- after it.
abbrev pub from : List ℕ → ℕ → Read
from s p = read_of (run_from 0 p idle (drop p s))

abbrev pub going_on : (ℕ → Read) → Reading → Read
going_on on ended = record { tables = []; refusal = None }
going_on on (closed t place after) = record { tables = closed_at t place ∷ (on after).tables; refusal = (on after).refusal }
going_on on (broken w place) = record { tables = []; refusal = Some (stop w place) }

abbrev pub OneByOne : List ℕ → ℕ → Type 0
OneByOne s p = from s p ≡ going_on (from s) (table_from true 0 p idle (drop p s))
