-- A whole sheet is its first table and then what is left.
use Rattle.std.proofs.Common.{◌≡◌, ℕ, zero, suc, ◌+◌, ◌-◌, ◌<◌, ◌≤◌, Bool, true, List, [], ◌∷◌, length, drop, sym, refl, ap, ◌∙◌, ⊎_elim, add-zero, arith}
use Rattle.std.proofs.lemmas.List.{drop_all}
use Rattle.std.proofs.lemmas.Bool.{cases_lt}
use Rattle.sheet.specs.Commands.{Found, nothing, found, wrong, code_of, coded, operand_bytes, saying}
use Rattle.sheet.specs.Desk.{State, idle, Table, After, goes, closes, stops, applying}
use Rattle.sheet.specs.Sheets.{Reading, ended, closed, turning, reading, table_from, Closing, closed_at, Run, following, running, run_from}
use Rattle.sheet.specs.Laws.{Read, read_of, from, going_on, OneByOne}
use Rattle.sheet.proofs.TableSteps.{beyond, left_of}

-- The operands of the command before are passed over.
pub run_skipped : (k p : ℕ) (st : State) (bs : List ℕ) → run_from k p st bs ≡ run_from 0 (p + k) st (drop k bs)
unfolding run_from
run_skipped zero p st bs = ap (λ i. run_from 0 i st bs) (sym (add-zero p))
run_skipped (suc k) p st [] = refl
run_skipped (suc k) p st (b ∷ bs) =
    let e : p + 1 + k ≡ p + suc k = omega arith in
    run_skipped k (p + 1) st bs ∙ ap (λ i. run_from 0 i st (drop k bs)) e

abbrev before_read : Closing → Read → Read
before_read c r = record { tables = c ∷ r.tables; refusal = r.refusal }

-- One command, where what follows it agrees.
follows : (on : State → Run) (on' : State → Reading) (go : ℕ → Read) (place after : ℕ) (a : After) →
    ((st : State) → read_of (on st) ≡ going_on go (on' st)) → read_of (on idle) ≡ go after →
    read_of (following on place a) ≡ going_on go (turning on' place after a)
follows on on' go place after (goes st) e f = e st
follows on on' go place after (closes t) e f = ap (before_read (closed_at t place)) f
follows on on' go place after (stops w st) e f = refl

commands : (on : ℕ → State → Run) (on' : ℕ → State → Reading) (go : ℕ → Read) (p : ℕ) (st : State) (f : Found) →
    ((n : ℕ) (st : State) → read_of (on n st) ≡ going_on go (on' n st)) → ((n : ℕ) → read_of (on n idle) ≡ go (p + 1 + n)) →
    read_of (running on p st f) ≡ going_on go (reading on' true p st f)
commands on on' go p st nothing e f = refl
commands on on' go p st (wrong w) e f = refl
commands on on' go p st (found c os) e f =
    let n = operand_bytes c in follows (on n) (on' n) go p (p + 1 + n) (applying true st (saying c os)) (e n) (f n)

agree : (s bs : List ℕ) (skip p : ℕ) (st : State) → drop p s ≡ bs →
    read_of (run_from skip p st bs) ≡ going_on (from s) (table_from true skip p st bs)
unfolding run_from table_from
agree s [] skip p st e = refl
agree s (b ∷ bs) (suc skip) p st e = agree s bs skip (p + 1) st (left_of s p b bs e)
agree s (b ∷ bs) zero p st e =
    commands (λ n st. run_from n (p + 1) st bs) (λ n st. table_from true n (p + 1) st bs) (from s) p st (coded (code_of b) bs)
    (λ n st. agree s bs n (p + 1) st (left_of s p b bs e))
    (λ n. ap read_of (run_skipped n (p + 1) idle bs ∙ ap (run_from 0 (p + 1 + n) idle) (beyond s p n b bs e)))

pub table_first : (s : List ℕ) (p : ℕ) → OneByOne s p
table_first s p = agree s (drop p s) 0 p idle refl

-- A closed table ends after the place where reading began.
turned_on : (on : State → Reading) (p q place after : ℕ) (t : Table) (a : After) → p < q → closed t place after ≡ turning on p q a →
    ((st : State) → closed t place after ≡ on st → p < after) → p < after
turned_on on p q place after t (goes st) l e f = f st e
turned_on on p q place after t (closes t') l e f = let same : after ≡ q = cc in omega arith
turned_on on p q place after t (stops w st) l e f = absurd (cc)

read_on : (on : ℕ → State → Reading) (room : Bool) (p place after : ℕ) (st : State) (t : Table) (f : Found) →
    closed t place after ≡ reading on room p st f → ((n : ℕ) (st : State) → closed t place after ≡ on n st → p < after) → p < after
read_on on room p place after st t nothing e f = absurd (cc)
read_on on room p place after st t (wrong w) e f = absurd (cc)
read_on on room p place after st t (found c os) e f =
    let n = operand_bytes c in
    let l : p < p + 1 + n = omega arith in
    turned_on (on n) p (p + 1 + n) place after t (applying room st (saying c os)) l e (f n)

advances : (room : Bool) (bs : List ℕ) (skip p place after : ℕ) (st : State) (t : Table) →
    closed t place after ≡ table_from room skip p st bs → p < after
unfolding table_from
advances room [] skip p place after st t e = absurd (cc)
advances room (b ∷ bs) (suc skip) p place after st t e = omega (arith, advances room bs skip (p + 1) place after st t e)
advances room (b ∷ bs) zero p place after st t e =
    read_on (λ n st. table_from room n (p + 1) st bs) room p place after st t (coded (code_of b) bs) e
    (λ n st f. omega (arith, advances room bs n (p + 1) place after st t f))

nowhere : (room : Bool) (s : List ℕ) (p place after : ℕ) (t : Table) →
    closed t place after ≡ table_from room 0 p idle (drop p s) → length s ≤ p → ⊥
unfolding table_from
nowhere room s p place after t e out =
    let f : closed t place after ≡ ended = e ∙ ap (table_from room 0 p idle) (drop_all p s out) in
    cc

-- What is left falls with each table.
pub fewer : (room : Bool) (s : List ℕ) (p place after : ℕ) (t : Table) → closed t place after ≡ table_from room 0 p idle (drop p s) →
    length s - after < length s - p
fewer room s p place after t e =
    ⊎_elim (λ inside. omega (arith, advances room (drop p s) 0 p place after idle t e))
    (λ out. absurd (nowhere room s p place after t e out))
    (cases_lt p (length s))
