-- A sheet opens a table first: an idle desk takes no other command.
use Rattle.std.proofs.Common.{◌≡◌, ℕ, ◌+◌, Bool, true, false, cond, eqb, List, [], ◌∷◌, drop, Float, sym, refl, ap, ◌∙◌}
use Rattle.scalar.specs.Ops.{Ops}
use Rattle.fault.specs.Refusals.{refused}
use Rattle.job.specs.Opening.{made, declined, starved, opened}
use Rattle.job.specs.Typed.{Typed, blank, is_side}
use Rattle.sheet.specs.Commands.{Found, nothing, found, wrong, code_of, coded, operand_bytes, Said, opens, entry, outline_entry, saying}
use Rattle.sheet.specs.Commands.{tolerance, limit, values, vectors}
use Rattle.sheet.specs.Desk.{State, idle, real, outline, Table, After, goes, closes, stops, applying, reals, outlines, starting}
use Rattle.sheet.specs.Faults.{memory}
use Rattle.sheet.specs.Sheets.{Reading, closed, broken, turning, reading, table_from}
use Rattle.listing.specs.Steps.{OpensAt}

-- What a command comes to at an idle desk, with memory and without.
abbrev Without : After → After → Type 0
Without (goes st) b = b ≡ stops memory idle
Without (closes t) b = ⊥
Without (stops w st) b = b ≡ stops w st

either : (c : Bool) (x y x' y' : After) → Without x x' → Without y y' → Without (cond c x y) (cond c x' y')
either true x y x' y' p q = p
either false x y x' y' p q = q

opening : {C : Type 0} (ops : Ops C Float) (state : Typed C Float → State) (side : ℕ) →
    Without (starting state (opened ops side true)) (starting state (opened ops side false))
opening ops state side = by_side (is_side side)
  where
    by_side : (b : Bool) →
        Without (starting state (cond b (made (blank ops side)) (declined (refused 13 []))))
        (starting state (cond b starved (declined (refused 13 []))))
    by_side true = refl
    by_side false = refl

idle_desk : (s : Said) → Without (applying true idle s) (applying false idle s)
idle_desk (opens kind side) =
    either (eqb kind 0) _ _ _ _ (opening reals real side) (either (eqb kind 1) _ _ _ _ (opening outlines outline side) refl)
idle_desk (entry row column bits) = refl
idle_desk (outline_entry row column across along) = refl
idle_desk (tolerance bits) = refl
idle_desk (limit count) = refl
idle_desk values = refl
idle_desk vectors = refl

module _ (on on' : State → Reading) (p after : ℕ) where
  turned : (place end : ℕ) (t : Table) (a b : After) → Without a b → closed t place end ≡ turning on p after a →
      turning on' p after b ≡ broken memory p
  turned place end t (goes st) b e f = ap (turning on' p after) e
  turned place end t (closes t') b e f = absurd e
  turned place end t (stops w st) b e f = absurd (cc)

  stopped : (place : ℕ) (a b : After) → Without a b → broken memory place ≡ turning on' p after b → place ≡ p
  stopped place (goes st) b e f = let same = f ∙ ap (turning on' p after) e in cc
  stopped place (closes t) b e f = absurd e
  stopped place (stops w st) b e f = let same = f ∙ ap (turning on' p after) e in cc

module _ (on on' : ℕ → State → Reading) (p : ℕ) where
  read_closed : (place end : ℕ) (t : Table) (f : Found) → closed t place end ≡ reading on true p idle f →
      reading on' false p idle f ≡ broken memory p
  read_closed place end t nothing e = absurd (cc)
  read_closed place end t (wrong w) e = absurd (cc)
  read_closed place end t (found c os) e =
      let n = operand_bytes c in turned (on n) (on' n) p (p + 1 + n) place end t _ _ (idle_desk (saying c os)) e

  read_stopped : (place : ℕ) (f : Found) → broken memory place ≡ reading on' false p idle f → place ≡ p
  read_stopped place nothing e = absurd (cc)
  read_stopped place (wrong w) e = cc
  read_stopped place (found c os) e =
      let n = operand_bytes c in stopped (on n) (on' n) p (p + 1 + n) place _ _ (idle_desk (saying c os)) e

closes_opened : (bs : List ℕ) (p place end : ℕ) (t : Table) → closed t place end ≡ table_from true 0 p idle bs →
    table_from false 0 p idle bs ≡ broken memory p
unfolding table_from
closes_opened [] p place end t e = absurd (cc)
closes_opened (b ∷ bs) p place end t e =
    read_closed (λ n st. table_from true n (p + 1) st bs) (λ n st. table_from false n (p + 1) st bs) p place end t (coded (code_of b) bs) e

starves_here : (bs : List ℕ) (p place : ℕ) → broken memory place ≡ table_from false 0 p idle bs → place ≡ p
unfolding table_from
starves_here [] p place e = absurd (cc)
starves_here (b ∷ bs) p place e =
    read_stopped (λ n st. table_from true n (p + 1) st bs) (λ n st. table_from false n (p + 1) st bs) p place (coded (code_of b) bs) e

-- A table that is closed was opened where the reader began.
pub closed_opens : (s : List ℕ) (p place end : ℕ) (t : Table) → closed t place end ≡ table_from true 0 p idle (drop p s) → OpensAt s p
closed_opens s p place end t e = closes_opened (drop p s) p place end t e

-- So was one for which memory was wanting.
pub starved_opens : (s : List ℕ) (p place : ℕ) → broken memory place ≡ table_from false 0 p idle (drop p s) → OpensAt s p
starved_opens s p place e = sym e ∙ ap (broken memory) (starves_here (drop p s) p place e)
