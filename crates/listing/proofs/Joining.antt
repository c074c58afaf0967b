-- A listing with more bytes behind its sheet.
use Rattle.std.proofs.Common.{◌≡◌, ℕ, ◌+◌, ◌≤◌, ◌⊎◌, ltb, List, [], ◌∷◌, ◌++◌, map, length, Some, None, Option, inl, inr, ⊎_elim, sym, refl, ap, ◌∙◌, append_assoc, arith, length-append}
use Rattle.std.proofs.lemmas.Bool.{cond-false, le-ltb}
use Rattle.sheet.specs.Laws.{read_of, closed_later, later}
use Rattle.sheet.specs.Sheets.{Closing, Stop, run}
use Rattle.sheet.proofs.Joining as sheets
use Rattle.listing.specs.Laws.{ListsBehind, TablesBehind, TablesUnlisted, Unlisted, behind, unless_ended}
use Rattle.listing.specs.Listings.{Listed, Made, lists, fails, in_turn, lines, listed, longest, onward, solved_read, too_long, made_of_table}

-- A table that is refused ends a listing, whatever follows.
one_ended : (place : ℕ) (m : Made) (none whole read : Listed) → (none.refusal ≡ None) ⊎ (whole ≡ read) →
    ((onward place m none).refusal ≡ None) ⊎ (onward place m whole ≡ onward place m read)
one_ended place (fails w) none whole read h = inr refl
one_ended place (lists ls) none whole read h = ⊎_elim inl (λ e. inr (ap (onward place (lists ls)) e)) h

ended_within : (cs ds : List Closing) (x y : Option Stop) → ((in_turn cs None).refusal ≡ None) ⊎ (in_turn (cs ++ ds) y ≡ in_turn cs x)
ended_within [] ds x y = inl refl
ended_within (c ∷ cs) ds x y =
    one_ended c.place (made_of_table c.table) (in_turn cs None) (in_turn (cs ++ ds) y) (in_turn cs x) (ended_within cs ds x y)

-- Where none is, the reader's refusal ends it.
one_behind : (place : ℕ) (m : Made) (none read : Listed) (x : Option Stop) → (none.refusal ≡ None → read.refusal ≡ x) →
    (onward place m none).refusal ≡ None → (onward place m read).refusal ≡ x
one_behind place (fails w) none read x h e = absurd (cc)
one_behind place (lists ls) none read x h e = h e

ended_behind : (cs : List Closing) (x : Option Stop) → (in_turn cs None).refusal ≡ None → (in_turn cs x).refusal ≡ x
ended_behind [] x e = refl
ended_behind (c ∷ cs) x e =
    one_behind c.place (made_of_table c.table) (in_turn cs None) (in_turn cs x) x (ended_behind cs x) e

pub tables_unlisted : (s : List ℕ) → TablesUnlisted s
tables_unlisted s t x e not =
    let k = sheets.kept s t in
    ⊎_elim
    (λ solved. ap (λ r. solved_read (read_of r))
    (sheets.unread s t x (sym (ended_behind (run s).tables (run s).refusal solved) ∙ e) not))
    (λ refused. ap (λ cs. in_turn cs (run (s ++ t)).refusal) k.tables ∙ refused)
    (ended_within (run s).tables k.others (run s).refusal (run (s ++ t)).refusal)

-- tables that are closed later by n are listed alike, and refused later by n
abbrev shift : ℕ → Listed → Listed
shift n l = record { lines = l.lines; refusal = later n l.refusal }

onward_late : (n place : ℕ) (m : Made) (rest : Listed) → onward (n + place) m (shift n rest) ≡ shift n (onward place m rest)
onward_late n place (lists ls) rest = refl
onward_late n place (fails w) rest = refl

late : (n : ℕ) (cs : List Closing) (x : Option Stop) → in_turn (map (closed_later n) cs) (later n x) ≡ shift n (in_turn cs x)
late n [] x = refl
late n (c ∷ cs) x =
    ap (onward (n + c.place) (made_of_table c.table)) (late n cs x) ∙ onward_late n c.place (made_of_table c.table) (in_turn cs x)

-- one table, and what is listed behind
onward_then : (place n : ℕ) (m : Made) (rest b : Listed) → onward place m (behind rest n b) ≡ behind (onward place m rest) n b
onward_then place n (fails w) rest b = refl
onward_then place n (lists ls) rest b = by rest.refusal
  where
    by : (x : Option Stop) →
        onward place (lists ls) (unless_ended x rest n b) ≡
        unless_ended x (onward place (lists ls) rest) n b
    by None = ap (λ l. record { lines = l; refusal = later n b.refusal }) (sym (append_assoc ls rest.lines b.lines))
    by (Some x) = refl

joined_in_turn : (cs ds : List Closing) (n : ℕ) (x : Option Stop) →
    in_turn (cs ++ map (closed_later n) ds) (later n x) ≡ behind (in_turn cs None) n (in_turn ds x)
joined_in_turn [] ds n x = late n ds x
joined_in_turn (c ∷ cs) ds n x =
    ap (onward c.place (made_of_table c.table)) (joined_in_turn cs ds n x) ∙
    onward_then c.place n (made_of_table c.table) (in_turn cs None) (in_turn ds x)

pub tables_behind : (s : List ℕ) → TablesBehind s
tables_behind s t all =
    ap (λ r. solved_read (read_of r)) (sheets.joins s t all) ∙
    joined_in_turn (run s).tables (run t).tables (length s) (run t).refusal ∙
    ap (λ x. behind (in_turn (run s).tables x) (length s) (lines t)) (sym all.unrefused)

-- A sheet that is short enough lists its tables.
short : (s : List ℕ) → length s ≤ longest → listed s ≡ lines s
short s fits = cond-false (ltb longest (length s)) too_long (lines s) (le-ltb longest (length s) fits)

-- Each part of a sheet that is short enough is so too.
first_fits : (s t : List ℕ) → length (s ++ t) ≤ longest → length s ≤ longest
first_fits s t fits = omega (arith, length-append s t)

second_fits : (s t : List ℕ) → length (s ++ t) ≤ longest → length t ≤ longest
second_fits s t fits = omega (arith, length-append s t)

pub unlisted : (s : List ℕ) → Unlisted s
unlisted s t x fits e not =
    let alone = short s (first_fits s t fits) in
    short (s ++ t) fits ∙ tables_unlisted s t x (ap (λ l. l.refusal) (sym alone) ∙ e) not ∙ sym alone

pub lists_behind : (s : List ℕ) → ListsBehind s
lists_behind s t fits all =
    short (s ++ t) fits ∙ tables_behind s t all ∙
    ap (λ l. behind l (length s) (lines t)) (sym (short s (first_fits s t fits))) ∙
    ap (behind (listed s) (length s)) (sym (short t (second_fits s t fits)))
