-- Reading a sheet command by command: one step of the definition is one step of the code.
use Rattle.std.proofs.Common.{◌≡◌, ℕ, zero, suc, ◌+◌, ◌-◌, ◌<◌, ◌≤◌, Bool, true, false, cond, leb, List, [], ◌∷◌, length, take, drop, Some, None, Option, sym, refl, ap, ◌∙◌, ⊎_elim, add-zero, arith}
use Rattle.std.proofs.lemmas.List.{drop-drop, at_drop_all}
use Rattle.std.proofs.lemmas.Bool.{cases_lt}
use Rattle.fault.specs.Refusals.{refused}
use Rattle.sheet.specs.declared.command.Code.{Code}
use Rattle.sheet.specs.Faults.{Why, rule, memory}
use Rattle.sheet.specs.Commands.{Found, nothing, found, wrong, code_of, coded, decode, at, Stepped, end, next, refuses}
use Rattle.sheet.specs.Commands.{operand_bytes, saying}
use Rattle.sheet.specs.Desk.{State, idle, room_for, Table, After, goes, closes, stops, applying}
use Rattle.sheet.proofs.Desks.{starved_idle, kept_open}
use Rattle.sheet.specs.Sheets.{Reading, ended, closed, broken, turning, reading, table_from}

-- The operands of the command before are passed over.
pub skipped : (room : Bool) (k p : ℕ) (st : State) (bs : List ℕ) → table_from room k p st bs ≡ table_from room 0 (p + k) st (drop k bs)
unfolding table_from
skipped room zero p st bs = ap (λ i. table_from room 0 i st bs) (sym (add-zero p))
skipped room (suc k) p st [] = refl
skipped room (suc k) p st (b ∷ bs) =
    let e : p + 1 + k ≡ p + suc k = omega arith in
    skipped room k (p + 1) st bs ∙ ap (λ i. table_from room 0 i st (drop k bs)) e

-- One step, by what stands at the place.
abbrev pub stepping : (ℕ → State → Reading) → Bool → State → Stepped → Reading
stepping on room st end = ended
stepping on room st (next place c os after) = turning (on after) place after (applying room st (saying c os))
stepping on room st (refuses w place) = broken w place

turns : (on on' : State → Reading) (place after : ℕ) (a : After) → ((st : State) → on st ≡ on' st) →
    turning on place after a ≡ turning on' place after a
turns on on' place after (goes st) e = e st
turns on on' place after (closes t) e = refl
turns on on' place after (stops w st) e = refl

steps : (on on' : ℕ → State → Reading) (room : Bool) (place : ℕ) (st : State) (f : Found) →
    ((n : ℕ) (st : State) → on n st ≡ on' (place + 1 + n) st) → reading on room place st f ≡ stepping on' room st (at place f)
steps on on' room place st nothing e = refl
steps on on' room place st (found c os) e =
    let n = operand_bytes c in turns (on n) (on' (place + 1 + n)) place (place + 1 + n) (applying room st (saying c os)) (e n)
steps on on' room place st (wrong w) e = refl

-- What is left after the byte at a place, and some operands.
pub left_of : (s : List ℕ) (i b : ℕ) (bs : List ℕ) → drop i s ≡ b ∷ bs → drop (i + 1) s ≡ bs
left_of s i b bs e = sym (drop-drop 1 i s) ∙ ap (drop 1) e

pub beyond : (s : List ℕ) (i n b : ℕ) (bs : List ℕ) → drop i s ≡ b ∷ bs → drop n bs ≡ drop (i + 1 + n) s
beyond s i n b bs e = ap (drop n) (sym (left_of s i b bs e)) ∙ drop-drop n (i + 1) s

at_bytes : (room : Bool) (s : List ℕ) (i : ℕ) (st : State) (bs : List ℕ) → drop i s ≡ bs →
    table_from room 0 i st bs ≡ stepping (λ after st. table_from room 0 after st (drop after s)) room st (at i (decode bs))
unfolding table_from
at_bytes room s i st [] e = refl
at_bytes room s i st (b ∷ bs) e =
    steps (λ n st. table_from room n (i + 1) st bs) (λ after st. table_from room 0 after st (drop after s)) room i st (coded (code_of b) bs)
    (λ n st. skipped room n (i + 1) st bs ∙ ap (table_from room 0 (i + 1 + n) st) (beyond s i n b bs e))

-- One step at a place of a sheet.
pub table_step : (room : Bool) (s : List ℕ) (i : ℕ) (st : State) (x : Stepped) → x ≡ at i (decode (drop i s)) →
    table_from room 0 i st (drop i s) ≡ stepping (λ after st. table_from room 0 after st (drop after s)) room st x
table_step room s i st x e =
    at_bytes room s i st (drop i s) refl ∙ ap (stepping (λ after st. table_from room 0 after st (drop after s)) room st) (sym e)

-- Where the reader stands: what is left gives the table, and the desk is idle only at the start.
pub record Reads (s : List ℕ) (place i : ℕ) (st : State) : Type 0 where
  pub same : table_from true 0 i st (drop i s) ≡ table_from true 0 place idle (drop place s)
  pub first : st ≡ idle → i ≡ place

pub start : (s : List ℕ) (place : ℕ) → Reads s place place idle
start s place = record { same = refl; first = λ _. refl }

past : (s : List ℕ) (i : ℕ) → length s ≤ i → at i (decode (drop i s)) ≡ end
past s i h = ap (at i) (at_drop_all decode s i h)

-- Where a command stands, and how far it reaches.
nexts : (i p : ℕ) (c : Code) (os : List ℕ) (after : ℕ) (f : Found) → next p c os after ≡ at i f → (p ≡ i) × (i < after)
nexts i p c os after nothing e = absurd (cc)
nexts i p c os after (found c' os') e = let ends : after ≡ i + 1 + operand_bytes c' = cc in (cc, omega arith)
nexts i p c os after (wrong y) e = absurd (cc)

pub here : (s : List ℕ) (i p after : ℕ) (c : Code) (os : List ℕ) → next p c os after ≡ at i (decode (drop i s)) → p ≡ i
here s i p after c os e = (nexts i p c os after (decode (drop i s)) e).0

-- What is left falls with each command.
pub falls : (s : List ℕ) (i p after : ℕ) (c : Code) (os : List ℕ) → next p c os after ≡ at i (decode (drop i s)) →
    length s - after < length s - i
falls s i p after c os e =
    ⊎_elim (λ inside. omega (arith, (nexts i p c os after (decode (drop i s)) e).1)) (λ out. absurd (none out)) (cases_lt i (length s))
  where
    none : length s ≤ i → ⊥
    none out = let z = e ∙ past s i out in cc

-- No byte wants memory.
wrong_room : Found → Bool
wrong_room nothing = true
wrong_room (found c os) = true
wrong_room (wrong w) = room_for w

operands_room : (b : Bool) (c : Code) (os : List ℕ) → wrong_room (cond b (found c os) (wrong (rule (refused 11 [])))) ≡ true
unfolding wrong_room
operands_room true c os = refl
operands_room false c os = refl

decode_room : (bs : List ℕ) → wrong_room (decode bs) ≡ true
unfolding wrong_room
decode_room [] = refl
decode_room (b ∷ rest) = coded_room (code_of b)
  where
    coded_room : (o : Option Code) → wrong_room (coded o rest) ≡ true
    coded_room None = refl
    coded_room (Some c) = operands_room (leb (operand_bytes c) (length rest)) c (take (operand_bytes c) rest)

wrong_has_room : (i p : ℕ) (y : Why) (f : Found) → wrong_room f ≡ true → refuses y p ≡ at i f → room_for y ≡ true
unfolding wrong_room
wrong_has_room i p y nothing h e = absurd (cc)
wrong_has_room i p y (found c os) h e = absurd (cc)
wrong_has_room i p y (wrong w) h e = let same : y ≡ w = cc in ap room_for same ∙ h

module _ (s : List ℕ) (place i : ℕ) (st : State) (r : Reads s place i st) where
  pub at_end : end ≡ at i (decode (drop i s)) → ended ≡ table_from true 0 place idle (drop place s)
  at_end e = sym (table_step true s i st end e) ∙ r.same

  -- the answer of a command, with room or without
  answer : (room : Bool) (p after : ℕ) (c : Code) (os : List ℕ) (a : After) → next p c os after ≡ at i (decode (drop i s)) →
      a ≡ applying room st (saying c os) →
      turning (λ st. table_from room 0 after st (drop after s)) i after a ≡ table_from room 0 i st (drop i s)
  answer room p after c os a e f =
      ap (λ q. turning (λ st. table_from room 0 after st (drop after s)) q after a) (sym (here s i p after c os e)) ∙
      ap (turning (λ st. table_from room 0 after st (drop after s)) p after) f ∙
      sym (table_step room s i st (next p c os after) e)

  pub at_close : (p after : ℕ) (c : Code) (os : List ℕ) (t : Table) → next p c os after ≡ at i (decode (drop i s)) →
      closes t ≡ applying true st (saying c os) → closed t i after ≡ table_from true 0 place idle (drop place s)
  at_close p after c os t e a = answer true p after c os (closes t) e a ∙ r.same

  pub at_stop : (p after : ℕ) (c : Code) (os : List ℕ) (y : Why) (st' : State) → next p c os after ≡ at i (decode (drop i s)) →
      stops y st' ≡ applying (room_for y) st (saying c os) → broken y i ≡ table_from (room_for y) 0 place idle (drop place s)
  at_stop p after c os (rule known) st' e a = answer true p after c os (stops (rule known) st') e a ∙ r.same
  at_stop p after c os memory st' e a =
      let none : st ≡ idle = starved_idle false st st' (saying c os) a in
      answer false p after c os (stops memory st') e a ∙
      ap (λ x. table_from false 0 i x (drop i s)) none ∙
      ap (λ k. table_from false 0 k idle (drop k s)) (r.first none)

  pub at_wrong : (p : ℕ) (y : Why) → refuses y p ≡ at i (decode (drop i s)) →
      broken y p ≡ table_from (room_for y) 0 place idle (drop place s)
  at_wrong p y e =
      sym (table_step true s i st (refuses y p) e) ∙ r.same ∙
      ap (λ b. table_from b 0 place idle (drop place s)) (sym (wrong_has_room i p y (decode (drop i s)) (decode_room (drop i s)) e))

  pub again : (p after : ℕ) (c : Code) (os : List ℕ) (st' : State) → next p c os after ≡ at i (decode (drop i s)) →
      goes st' ≡ applying true st (saying c os) → Reads s place after st'
  again p after c os st' e a = record {
    same = answer true p after c os (goes st') e a ∙ r.same;
    first = λ none. absurd (kept_open true st st' (saying c os) a none);
  }
