-- One table of a listing, and what is listed from the place after it.
use Rattle.std.proofs.Common.{◌≡◌, ℕ, ◌-◌, ◌<◌, true, List, [], length, drop, Some, Err, sym, refl, ap, ◌∙◌}
use Rattle.sheet.specs.declared.sheet_fault.Refusal.{Refusal}
use Rattle.sheet.specs.Desk.{Table, idle, room_for}
use Rattle.sheet.specs.Faults.{Why, memory, rule, why}
use Rattle.sheet.specs.Laws.{OneByOne, from, going_on}
use Rattle.sheet.specs.Sheets.{Reading, broken, closed, stop, table_from}
use Rattle.sheet.proofs.Runs.{fewer}
use Rattle.listing.specs.declared.line.Line.{Line}
use Rattle.listing.specs.Listings.{lists, made_of_table, onward, solved_read}
use Rattle.listing.specs.Steps.{Makes, MakesNot, OpensAt, Refuses, Steps, before, lines_from}
use Rattle.listing.proofs.Opening.{closed_opens, starved_opens}

-- what reading comes to, solved
next_read : (s : List ℕ) (p : ℕ) (r : Reading) → OneByOne s p → r ≡ table_from true 0 p idle (drop p s) →
    lines_from s p ≡ solved_read (going_on (from s) r)
next_read s p r one e = ap solved_read one ∙ ap (λ x. solved_read (going_on (from s) x)) (sym e)

pub added : (s : List ℕ) (p place after : ℕ) (t : Table) (ls : List Line) → OneByOne s p →
    closed t place after ≡ table_from true 0 p idle (drop p s) → lists ls ≡ made_of_table t →
    (lines_from s p ≡ before ls (lines_from s after)) × (length s - after < length s - p) × OpensAt s p
added s p place after t ls one e m = (
  next_read s p (closed t place after) one e ∙ ap (λ x. onward place x (lines_from s after)) (sym m),
  fewer true s p place after t e,
  closed_opens s p place after t e,
)

-- A listing that ends here, by the reader's refusal or that of a table which was closed.
read_refused : (s : List ℕ) (p : ℕ) (r : Refusal) (w : Why) → w ≡ why r.fault → OneByOne s p →
    broken w r.place ≡ table_from (room_for w) 0 p idle (drop p s) → Refuses s p r w
read_refused s p r (rule known) same one e =
    next_read s p (broken (rule known) r.place) one e ∙ ap (λ x. record { lines = []; refusal = Some (stop x r.place) }) same
read_refused s p r memory same one e = starved_opens s p r.place e

made_refused : (s : List ℕ) (p place after : ℕ) (t : Table) (r : Refusal) (w : Why) → w ≡ why r.fault → OneByOne s p →
    closed t place after ≡ table_from true 0 p idle (drop p s) → MakesNot (made_of_table t) place r w → Refuses s p r w
made_refused s p place after t r (rule known) same one e m =
    next_read s p (closed t place after) one e ∙ ap (λ x. onward place x (lines_from s after)) (sym m.0) ∙
    ap (λ q. record { lines = []; refusal = Some (stop (rule known) q) }) (sym m.1) ∙
    ap (λ x. record { lines = []; refusal = Some (stop x r.place) }) same
made_refused s p place after t r memory same one e m = closed_opens s p place after t e

pub reader_stops : (s : List ℕ) (p : ℕ) (r : Refusal) → OneByOne s p →
    broken (why r.fault) r.place ≡ table_from (room_for (why r.fault)) 0 p idle (drop p s) → Steps s p (Err r)
reader_stops s p r = read_refused s p r (why r.fault) refl

pub table_stops : (s : List ℕ) (p place after : ℕ) (t : Table) (r : Refusal) → OneByOne s p →
    closed t place after ≡ table_from true 0 p idle (drop p s) → Makes (made_of_table t) place after (Err r) → Steps s p (Err r)
table_stops s p place after t r = made_refused s p place after t r (why r.fault) refl
