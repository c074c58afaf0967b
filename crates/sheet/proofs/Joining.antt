-- A sheet with more bytes behind it.
use Rattle.std.proofs.Common.{◌≡◌, ℕ, zero, suc, ◌+◌, ◌≤◌, Bool, true, false, cond, leb, ◌⊎◌, List, [], ◌∷◌, ◌++◌, map, length, take, Some, None, Option, sym, refl, ap, ◌∙◌, inl, inr, ⊎_elim, add-zero, add_assoc, arith, length-append, le-leb, leb-true}
use Rattle.std.proofs.lemmas.List.{take-append-le}
use Rattle.std.proofs.lemmas.Bool.{cases_Bool}
use Rattle.sheet.specs.declared.command.Code.{Code}
use Rattle.sheet.specs.Faults.{Why}
use Rattle.sheet.specs.Commands.{Found, nothing, found, wrong, code_of, coded, operand_bytes, saying}
use Rattle.sheet.specs.Desk.{State, idle, After, goes, closes, stops, applying}
use Rattle.sheet.specs.Sheets.{Run, Stop, stop, closed_then, closed_at, following, running, run_from, run}
use Rattle.sheet.specs.Laws.{cut_off, Final, Begins, Kept, later, closed_later, Joins}

-- A command is the same with more bytes behind it, unless it is cut off.
longer : (o : Option Code) (rest t : List ℕ) → (coded o rest ≡ wrong cut_off) ⊎ (coded o (rest ++ t) ≡ coded o rest)
longer None rest t = inr refl
longer (Some c) rest t =
    ⊎_elim (λ enough. inr (whole enough)) (λ few. inl (ap (λ b. cond b (there rest) (wrong cut_off)) few))
    (cases_Bool (leb (operand_bytes c) (length rest)))
  where
    there : List ℕ → Found
    there bs = found c (take (operand_bytes c) bs)

    whole : leb (operand_bytes c) (length rest) ≡ true → coded (Some c) (rest ++ t) ≡ coded (Some c) rest
    whole enough =
        let fits : operand_bytes c ≤ length rest = leb-true (operand_bytes c) (length rest) enough in
        let still : leb (operand_bytes c) (length (rest ++ t)) ≡ true =
        le-leb (operand_bytes c) (length (rest ++ t)) (simp length-append (omega arith)) in
        ap (λ b. cond b (there (rest ++ t)) (wrong cut_off)) still ∙
        ap (found c) (take-append-le (operand_bytes c) rest t fits) ∙
        sym (ap (λ b. cond b (there rest) (wrong cut_off)) enough)

-- Its operands lie within what is left.
Within : ℕ → Found → Type 0
Within len nothing = ⊥
Within len (found c os) = operand_bytes c ≤ len
Within len (wrong w) = Unit {0}

within_if : (b : Bool) (len : ℕ) (c : Code) (os : List ℕ) → (b ≡ true → operand_bytes c ≤ len) →
    Within len (cond b (found c os) (wrong cut_off))
unfolding Within
within_if true len c os h = h refl
within_if false len c os h = tt

within : (o : Option Code) (rest : List ℕ) → Within (length rest) (coded o rest)
unfolding Within
within None rest = tt
within (Some c) rest =
    within_if (leb (operand_bytes c) (length rest)) (length rest) c (take (operand_bytes c) rest)
    (leb-true (operand_bytes c) (length rest))

-- What both answers of a command have, by what follows.
followed : (on on' : State → Run) (place : ℕ) (a : After) (x : Stop) → (following on place a).refusal ≡ Some x →
    ((st : State) → (on st).refusal ≡ Some x → on' st ≡ on st) → following on' place a ≡ following on place a
followed on on' place (goes st) x e f = f st e
followed on on' place (closes t) x e f = ap (closed_then (closed_at t place)) (f idle e)
followed on on' place (stops w st) x e f = refl

ran : (on on' : ℕ → State → Run) (place : ℕ) (st : State) (f : Found) (x : Stop) → (running on place st f).refusal ≡ Some x →
    ((n : ℕ) (st : State) → (on n st).refusal ≡ Some x → on' n st ≡ on n st) → running on' place st f ≡ running on place st f
ran on on' place st nothing x e h = refl
ran on on' place st (wrong w) x e h = refl
ran on on' place st (found c os) x e h =
    let n = operand_bytes c in followed (on n) (on' n) place (applying true st (saying c os)) x e (h n)

why_of : Why → Option Stop → Why
why_of w None = w
why_of w (Some x) = x.why

final_from : (bs t : List ℕ) (skip p : ℕ) (st : State) (x : Stop) → (run_from skip p st bs).refusal ≡ Some x → (x.why ≡ cut_off → ⊥) →
    run_from skip p st (bs ++ t) ≡ run_from skip p st bs
unfolding run_from why_of
final_from [] t skip p st x e not = absurd (cc)
final_from (b ∷ bs) t (suc skip) p st x e not = final_from bs t skip (p + 1) st x e not
final_from (b ∷ bs) t zero p st x e not =
    ⊎_elim
    (λ cut. let y : Some (stop cut_off p) ≡ Some x = sym (ap (λ f. (running (λ n st. run_from n (p + 1) st bs) p st f).refusal) cut) ∙ e in
    let z : x.why ≡ cut_off = ap (why_of cut_off) (sym y) in absurd (not z))
    (λ same. ap (running (λ n st. run_from n (p + 1) st (bs ++ t)) p st) same ∙
    ran (λ n st. run_from n (p + 1) st bs) (λ n st. run_from n (p + 1) st (bs ++ t)) p st (coded (code_of b) bs) x e
    (λ n st f. final_from bs t n (p + 1) st x f not))
    (longer (code_of b) bs t)

pub unread : (s : List ℕ) → Final s
unread s t x e not = final_from s t 0 0 idle x e not

-- The tables of a run are closed first, whatever follows.
kept_after : (on on' : State → Run) (place : ℕ) (a : After) → ((st : State) → Begins (on st) (on' st)) →
    Begins (following on place a) (following on' place a)
kept_after on on' place (goes st) f = f st
kept_after on on' place (closes t) f =
    record { others = (f idle).others; tables = ap (λ cs. closed_at t place ∷ cs) (f idle).tables }
kept_after on on' place (stops w st) f = record { others = []; tables = refl }

kept_on : (on on' : ℕ → State → Run) (place : ℕ) (st : State) (f : Found) → ((n : ℕ) (st : State) → Begins (on n st) (on' n st)) →
    Begins (running on place st f) (running on' place st f)
kept_on on on' place st nothing h = record { others = []; tables = refl }
kept_on on on' place st (wrong w) h = record { others = []; tables = refl }
kept_on on on' place st (found c os) h =
    let n = operand_bytes c in kept_after (on n) (on' n) place (applying true st (saying c os)) (h n)

kept_from : (bs t : List ℕ) (skip p : ℕ) (st : State) → Begins (run_from skip p st bs) (run_from skip p st (bs ++ t))
unfolding run_from
kept_from [] t skip p st = record { others = (run_from skip p st t).tables; tables = refl }
kept_from (b ∷ bs) t (suc skip) p st = kept_from bs t skip (p + 1) st
kept_from (b ∷ bs) t zero p st =
    ⊎_elim
    (λ cut. record {
      others = (run_from 0 p st (b ∷ (bs ++ t))).tables;
      tables =
          ap (λ cs. cs ++ (run_from 0 p st (b ∷ (bs ++ t))).tables)
          (sym (ap (λ f. (running (λ n st. run_from n (p + 1) st bs) p st f).tables) cut));
    })
    (λ same. rw same
    (kept_on (λ n st. run_from n (p + 1) st bs) (λ n st. run_from n (p + 1) st (bs ++ t)) p st (coded (code_of b) bs)
    (λ n st. kept_from bs t n (p + 1) st)))
    (longer (code_of b) bs t)

pub kept : (s : List ℕ) → Kept s
kept s t = kept_from s t 0 0 idle

-- One run and then another.
abbrev and_then : Run → Run → Run
and_then a b = record { tables = a.tables ++ b.tables; desk = b.desk; refusal = b.refusal }

followed_on : (on on' : State → Run) (go : State → Run) (place : ℕ) (a : After) → (following on place a).refusal ≡ None →
    ((st : State) → (on st).refusal ≡ None → on' st ≡ and_then (on st) (go (on st).desk)) →
    following on' place a ≡ and_then (following on place a) (go (following on place a).desk)
followed_on on on' go place (goes st) e f = f st e
followed_on on on' go place (closes t) e f = ap (closed_then (closed_at t place)) (f idle e)
followed_on on on' go place (stops w st) e f = absurd (cc)

ran_on : (on on' : ℕ → State → Run) (go : State → Run) (len place : ℕ) (st : State) (f : Found) → Within len f →
    (running on place st f).refusal ≡ None →
    ((n : ℕ) (st : State) → n ≤ len → (on n st).refusal ≡ None → on' n st ≡ and_then (on n st) (go (on n st).desk)) →
    running on' place st f ≡ and_then (running on place st f) (go (running on place st f).desk)
unfolding Within
ran_on on on' go len place st nothing w e h = absurd w
ran_on on on' go len place st (wrong y) w e h = absurd (cc)
ran_on on on' go len place st (found c os) w e h =
    let n = operand_bytes c in followed_on (on n) (on' n) go place (applying true st (saying c os)) e (λ st f. h n st w f)

next_byte : (p : ℕ) (bs : List ℕ) → p + 1 + length bs ≡ p + suc (length bs)
next_byte p bs = omega arith

join_from : (bs t : List ℕ) (skip p : ℕ) (st : State) → skip ≤ length bs → (run_from skip p st bs).refusal ≡ None →
    run_from skip p st (bs ++ t) ≡ and_then (run_from skip p st bs) (run_from 0 (p + length bs) (run_from skip p st bs).desk t)
unfolding run_from
join_from [] t zero p st l e = ap (λ i. run_from 0 i st t) (sym (add-zero p))
join_from [] t (suc skip) p st l e = absurd (omega arith)
join_from (b ∷ bs) t (suc skip) p st l e =
    join_from bs t skip (p + 1) st (omega arith) e ∙
    ap (λ i. and_then (run_from skip (p + 1) st bs) (run_from 0 i (run_from skip (p + 1) st bs).desk t)) (next_byte p bs)
join_from (b ∷ bs) t zero p st l e =
    ⊎_elim
    (λ cut. let y : Some (stop cut_off p) ≡ None = sym (ap (λ f. (running (λ n st. run_from n (p + 1) st bs) p st f).refusal) cut) ∙ e in
    absurd (cc))
    (λ same. ap (running (λ n st. run_from n (p + 1) st (bs ++ t)) p st) same ∙
    ran_on (λ n st. run_from n (p + 1) st bs) (λ n st. run_from n (p + 1) st (bs ++ t)) (λ st. run_from 0 (p + suc (length bs)) st t)
    (length bs) p st (coded (code_of b) bs) (within (code_of b) bs) e
    (λ n st l f. join_from bs t n (p + 1) st l f ∙
    ap (λ i. and_then (run_from n (p + 1) st bs) (run_from 0 i (run_from n (p + 1) st bs).desk t)) (next_byte p bs)))
    (longer (code_of b) bs t)

-- A run that starts later by k closes its tables and is refused later by k.
abbrev shift : ℕ → Run → Run
shift k r = record { tables = map (closed_later k) r.tables; desk = r.desk; refusal = later k r.refusal }

followed_late : (k : ℕ) (on on' : State → Run) (place : ℕ) (a : After) → ((st : State) → on' st ≡ shift k (on st)) →
    following on' (k + place) a ≡ shift k (following on place a)
followed_late k on on' place (goes st) f = f st
followed_late k on on' place (closes t) f = ap (closed_then (closed_at t (k + place))) (f idle)
followed_late k on on' place (stops w st) f = refl

ran_late : (k : ℕ) (on on' : ℕ → State → Run) (place : ℕ) (st : State) (f : Found) → ((n : ℕ) (st : State) → on' n st ≡ shift k (on n st)) →
    running on' (k + place) st f ≡ shift k (running on place st f)
ran_late k on on' place st nothing h = refl
ran_late k on on' place st (wrong w) h = refl
ran_late k on on' place st (found c os) h =
    let n = operand_bytes c in followed_late k (on n) (on' n) place (applying true st (saying c os)) (h n)

late : (k : ℕ) (bs : List ℕ) (skip p : ℕ) (st : State) → run_from skip (k + p) st bs ≡ shift k (run_from skip p st bs)
unfolding run_from
late k [] skip p st = refl
late k (b ∷ bs) (suc skip) p st = ap (λ i. run_from skip i st bs) (add_assoc k p 1) ∙ late k bs skip (p + 1) st
late k (b ∷ bs) zero p st =
    ran_late k (λ n st. run_from n (p + 1) st bs) (λ n st. run_from n (k + p + 1) st bs) p st (coded (code_of b) bs)
    (λ n st. ap (λ i. run_from n i st bs) (add_assoc k p 1) ∙ late k bs n (p + 1) st)

pub joins : (s : List ℕ) → Joins s
joins s t all =
    let start : 0 + length s ≡ length s + 0 = omega arith in
    join_from s t 0 0 idle (omega arith) all.unrefused ∙
    ap (λ st. and_then (run s) (run_from 0 (0 + length s) st t)) all.none_open ∙
    ap (λ i. and_then (run s) (run_from 0 i idle t)) start ∙
    ap (and_then (run s)) (late (length s) t 0 0 idle)
