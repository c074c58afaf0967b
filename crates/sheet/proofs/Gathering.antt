-- Every table that a sheet closes is gathered.
use Rattle.std.proofs.Common.{◌≡◌, ℕ, zero, suc, ◌+◌, Bool, true, List, [], ◌∷◌, sym, subst}
use Rattle.std.specs.List.{AllByRecursion}
use Rattle.sheet.specs.declared.desk.Asked.{Asked}
use Rattle.sheet.specs.declared.desk.Table.{Table as Open}
use Rattle.sheet.specs.declared.desk.Table.TheVariants as table
use Rattle.sheet.specs.Commands.{Found, nothing, found, wrong, code_of, coded, operand_bytes, saying}
use Rattle.sheet.specs.Desk.{State, idle, After, goes, closes, stops, applying, asked_of}
use Rattle.sheet.specs.Laws.{gathered_reading, gathered_table, Gathers}
use Rattle.sheet.specs.Sheets.{Closing, Run, following, running, run_from, Reading, turning, reading, table_from}
use Rattle.sheet.proofs.Desks.{OnDesk, Leaves, applied_gathered}

abbrev GatheredAt : Closing → Type 0
GatheredAt c = gathered_table c.table

followed : (on : State → Run) (place : ℕ) (a : After) → Leaves a →
    ((st : State) → OnDesk st → AllByRecursion GatheredAt (on st).tables) →
    AllByRecursion GatheredAt (following on place a).tables
followed on place (goes st) h f = f st h
followed on place (closes t) h f = (h, f idle tt)
followed on place (stops w st) h f = tt

ran : (on : ℕ → State → Run) (place : ℕ) (st : State) (f : Found) → OnDesk st →
    ((n : ℕ) (st : State) → OnDesk st → AllByRecursion GatheredAt (on n st).tables) →
    AllByRecursion GatheredAt (running on place st f).tables
ran on place st nothing h f = tt
ran on place st (wrong w) h f = tt
ran on place st (found c os) h f =
    let n = operand_bytes c in let s = saying c os in
    followed (on n) place (applying true st s) (applied_gathered true st s h) (f n)

run_gathered : (bs : List ℕ) (skip p : ℕ) (st : State) → OnDesk st → AllByRecursion GatheredAt (run_from skip p st bs).tables
unfolding run_from
run_gathered [] skip p st h = tt
run_gathered (b ∷ bs) (suc skip) p st h = run_gathered bs skip (p + 1) st h
run_gathered (b ∷ bs) zero p st h =
    ran (λ n st. run_from n (p + 1) st bs) p st (coded (code_of b) bs) h (λ n st g. run_gathered bs n (p + 1) st g)

pub gathers : (s : List ℕ) → Gathers s
gathers s = run_gathered s 0 0 idle tt

turned_on : (on : State → Reading) (place after : ℕ) (a : After) → Leaves a → ((st : State) → OnDesk st → gathered_reading (on st)) →
    gathered_reading (turning on place after a)
turned_on on place after (goes st) h f = f st h
turned_on on place after (closes t) h f = h
turned_on on place after (stops w st) h f = tt

read_on : (on : ℕ → State → Reading) (room : Bool) (place : ℕ) (st : State) (f : Found) → OnDesk st →
    ((n : ℕ) (st : State) → OnDesk st → gathered_reading (on n st)) → gathered_reading (reading on room place st f)
read_on on room place st nothing h f = tt
read_on on room place st (wrong w) h f = tt
read_on on room place st (found c os) h f =
    let n = operand_bytes c in let s = saying c os in
    turned_on (on n) place (place + 1 + n) (applying room st s) (applied_gathered room st s h) (f n)

table_gathered : (bs : List ℕ) (room : Bool) (skip p : ℕ) (st : State) → OnDesk st → gathered_reading (table_from room skip p st bs)
unfolding table_from
table_gathered [] room skip p st h = tt
table_gathered (b ∷ bs) room (suc skip) p st h = table_gathered bs room skip (p + 1) st h
table_gathered (b ∷ bs) room zero p st h =
    read_on (λ n st. table_from room n (p + 1) st bs) room p st (coded (code_of b) bs) h (λ n st g. table_gathered bs room n (p + 1) st g)

-- the table that is read next, whatever the bytes are
pub reads_gathered : (bs : List ℕ) (room : Bool) (p : ℕ) (r : Reading) → r ≡ table_from room 0 p idle bs → gathered_reading r
reads_gathered bs room p r e = subst gathered_reading (sym e) (table_gathered bs room 0 p idle tt)

-- a table that was closed keeps it by its type
pub closed_gathered : (asked : Asked) (t : Open) → gathered_table (asked_of asked t)
closed_gathered asked (table.Real job) = job.gathered
closed_gathered asked (table.Outline job) = job.gathered
