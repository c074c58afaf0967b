-- One command at the desk: it leaves a table there, wants memory only where none lies, changes nothing where it is refused, and
-- keeps tables gathered.
use Rattle.std.proofs.Common.{◌≡◌, ℕ, Bool, true, false, cond, T, eqb, ◌⊎◌, [], Some, None, Option, sym, refl, ap, ◌∙◌, subst, inl, inr, ⊎_elim}
use borrow.Author.Tests.{clash}
use lib.Ieee.{Float, binary64, of_bits}
use lib.Ieee.Bits.{of_bits-fits}
use Rattle.std.proofs.lemmas.Bool.{cond_both}
use Rattle.fault.specs.Bounds.{limit_fits}
use Rattle.fault.specs.Refusals.{Refusal as Known, refused}
use Rattle.scalar.specs.ComplexOps.{complex_of}
use Rattle.scalar.specs.FloatLaws.{abs_size}
use Rattle.scalar.specs.Lawful.{float_larger, float_laws, float_sizes, complex_sizes, complex_sized}
use Rattle.scalar.specs.Ops.{Ops, SizeLaws}
use Rattle.scalar.specs.declared.point.Complex.{Complex}
use Rattle.job.specs.Gathered.{Gathered}
use Rattle.job.specs.Opening.{made, declined, starved, opened}
use Rattle.job.specs.Typed.{Typed, Outcome, blank, is_lower, is_side, is_tolerance, is_typed, putting, tolerating, limiting}
use Rattle.job.proofs.Gathers.{blank_gathered, putting_gathered, tolerating_gathered, limiting_gathered}
use Rattle.sheet.specs.Faults.{rule, memory}
use Rattle.sheet.specs.Commands.{Said, opens, entry, outline_entry, tolerance, limit, values, vectors}
use Rattle.sheet.specs.Desk.{State, idle, real, outline, After, goes, closes, stops, applying, typing, starting}
use Rattle.sheet.specs.Desk.{reals, outlines, real_rules, off_real, on_outline}
use Rattle.sheet.specs.Laws.{gathered_table, Unchanged}

-- An idle desk to go on with.
abbrev pub clears : After → Bool
clears (goes idle) = true
clears (goes (real j)) = false
clears (goes (outline j)) = false
clears (closes t) = false
clears (stops w st) = false

-- Want of memory.
abbrev pub starves : After → Bool
starves (goes st) = false
starves (closes t) = false
starves (stops (rule known) st) = false
starves (stops memory st) = true

-- The table on the desk is gathered, and so is what a command leaves.
abbrev pub OnDesk : State → Type 0
OnDesk idle = Unit {0}
OnDesk (real j) = Gathered reals real_rules j
OnDesk (outline j) = Gathered outlines real_rules j

abbrev pub Leaves : After → Type 0
Leaves (goes st) = OnDesk st
Leaves (closes t) = gathered_table t
Leaves (stops w st) = Unit {0}

-- What holds of each command at the desk.
record Sound (st : State) (a : After) : Type 0 where
  stays : clears a ≡ false
  fed : (st ≡ idle) ⊎ (starves a ≡ false)
  same : Unchanged st a
  gathers : OnDesk st → Leaves a

either : (st : State) (b : Bool) (x y : After) → Sound st x → Sound st y → Sound st (cond b x y)
either st b x y p q = cond_both b x y (Sound st) (λ _. p) (λ _. q)

halted : (st : State) (known : Known) → Sound st (stops (rule known) st)
halted st known = record { stays = refl; fed = inr refl; same = refl; gathers = λ _. tt }

-- A refused outcome has the table as it was.
abbrev OnRefusal : Option Known → Type 0 → Type 0
OnRefusal None P = Unit {0}
OnRefusal (Some known) P = P

typed : (st st' : State) (o : Option Known) → clears (goes st') ≡ false → OnRefusal o (st' ≡ st) → (OnDesk st → OnDesk st') →
    Sound st (typing o st')
typed st st' None e k g = record { stays = e; fed = inr refl; same = tt; gathers = g }
typed st st' (Some known) e k g = record { stays = refl; fed = inr refl; same = k; gathers = λ _. tt }

module _ {C : Type 0} (state : Typed C Float → State) (stands : (j : Typed C Float) → clears (goes (state j)) ≡ false) where
  -- a refused outcome has the table as it was, and each keeps it gathered
  typed_on : (j : Typed C Float) (o : Outcome C Float) → OnRefusal o.0 (o.1 ≡ j) → (OnDesk (state j) → OnDesk (state o.1)) →
      Sound (state j) (typing o.0 (state o.1))
  typed_on j o k g = typed (state j) (state o.1) o.0 (stands o.1) (moved o.0 k) g
    where
      moved : (r : Option Known) → OnRefusal r (o.1 ≡ j) → OnRefusal r (state o.1 ≡ state j)
      moved None h = tt
      moved (Some known) h = ap state h

  begun : (ops : Ops C Float) → SizeLaws ops real_rules → ((j : Typed C Float) → Gathered ops real_rules j → OnDesk (state j)) →
      (side : ℕ) (room : Bool) → Sound idle (starting state (opened ops side room))
  begun ops sizes f side room = by_side (is_side side) room
    where
      by_side : (b room : Bool) → Sound idle (starting state (cond b (cond room (made (blank ops side)) starved) (declined (refused 13 []))))
      by_side true true = record {
        stays = stands (blank ops side);
        fed = inl refl;
        same = tt;
        gathers = λ _. f (blank ops side) (blank_gathered ops real_rules sizes side);
      }
      by_side true false = record { stays = refl; fed = inl refl; same = refl; gathers = λ _. tt }
      by_side false room = halted idle (refused 13 [])

module _ {C : Type 0} (j : Typed C Float) where
  AsBefore : Outcome C Float → Type 0
  AsBefore o = OnRefusal o.0 (o.1 ≡ j)

  before : (b : Bool) (x y : Outcome C Float) → AsBefore x → AsBefore y → AsBefore (cond b x y)
  before b x y p q = cond_both b x y AsBefore (λ _. p) (λ _. q)

  put_before : (ops : Ops C Float) (row column : ℕ) (x : C) → AsBefore (putting ops real_rules j row column x)
  unfolding AsBefore
  put_before ops row column x =
      before (is_lower j.side row column) _ _
      (before (real_rules.is_finite (ops.size x)) _ _ (before (is_typed j row column) _ _ refl tt) refl) refl

  tolerance_before : (t : Float) → AsBefore (tolerating j t)
  unfolding AsBefore
  tolerance_before t = before (is_tolerance t) _ _ (before j.tolerance_given _ _ refl tt) refl

  limit_before : (n : ℕ) → AsBefore (limiting j n)
  unfolding AsBefore
  limit_before n = before (limit_fits n) _ _ (before j.limit_given _ _ refl tt) refl

outline_sizes : SizeLaws outlines real_rules
outline_sizes = complex_sizes (float_laws binary64)

-- a number read from bits has a size, if that is finite
real_sized : (bits : ℕ) → T (real_rules.is_finite (reals.size (of_bits binary64 bits))) →
    T (real_rules.is_size (reals.size (of_bits binary64 bits)))
real_sized bits = abs_size binary64 (of_bits binary64 bits) (of_bits-fits binary64 bits)

typed_real : (j : Typed Float Float) (o : Outcome Float Float) → AsBefore j o →
    (Gathered reals real_rules j → Gathered reals real_rules o.1) → Sound (real j) (typing o.0 (real o.1))
unfolding AsBefore
typed_real = typed_on real (λ j. refl)

typed_outline : (j : Typed (Complex Float) Float) (o : Outcome (Complex Float) Float) → AsBefore j o →
    (Gathered outlines real_rules j → Gathered outlines real_rules o.1) → Sound (outline j) (typing o.0 (outline o.1))
unfolding AsBefore
typed_outline = typed_on outline (λ j. refl)

sound : (room : Bool) (st : State) (s : Said) → Sound st (applying room st s)
sound room idle (opens kind side) =
    either idle (eqb kind 0) _ _ (begun real (λ j. refl) reals (float_sizes binary64) (λ j g. g) side room)
    (either idle (eqb kind 1) _ _ (begun outline (λ j. refl) outlines outline_sizes (λ j g. g) side room) (halted idle _))
sound room (real j) (opens kind side) = halted (real j) _
sound room (outline j) (opens kind side) = halted (outline j) _
sound room idle (entry row column bits) = halted idle _
sound room (real j) (entry row column bits) =
    let x = of_bits binary64 bits in
    typed_real j (putting reals real_rules j row column x) (put_before j reals row column x)
    (putting_gathered reals real_rules (float_larger binary64) (float_sizes binary64) j row column x (real_sized bits))
sound room (outline j) (entry row column bits) = halted (outline j) _
sound room idle (outline_entry row column across along) = halted idle _
sound room (real j) (outline_entry row column across along) = halted (real j) _
sound room (outline j) (outline_entry row column across along) =
    let x = complex_of (of_bits binary64 across) (of_bits binary64 along) in
    either (outline j) (off_real row column (of_bits binary64 along)) _ (on_outline (putting outlines real_rules j row column x))
    (halted (outline j) _)
    (typed_outline j (putting outlines real_rules j row column x) (put_before j outlines row column x)
    (putting_gathered outlines real_rules (float_larger binary64) outline_sizes j row column x
    (complex_sized (float_laws binary64) _ _ (real_sized across) (real_sized along))))
sound room idle (tolerance bits) = halted idle _
sound room (real j) (tolerance bits) =
    let t = of_bits binary64 bits in typed_real j (tolerating j t) (tolerance_before j t) (tolerating_gathered reals real_rules j t)
sound room (outline j) (tolerance bits) =
    let t = of_bits binary64 bits in typed_outline j (tolerating j t) (tolerance_before j t) (tolerating_gathered outlines real_rules j t)
sound room idle (limit count) = halted idle _
sound room (real j) (limit count) =
    typed_real j (limiting j count) (limit_before j count) (limiting_gathered reals real_rules j count)
sound room (outline j) (limit count) =
    typed_outline j (limiting j count) (limit_before j count) (limiting_gathered outlines real_rules j count)
sound room idle values = halted idle _
sound room (real j) values = record { stays = refl; fed = inr refl; same = tt; gathers = λ g. g }
sound room (outline j) values = record { stays = refl; fed = inr refl; same = tt; gathers = λ g. g }
sound room idle vectors = halted idle _
sound room (real j) vectors = record { stays = refl; fed = inr refl; same = tt; gathers = λ g. g }
sound room (outline j) vectors = record { stays = refl; fed = inr refl; same = tt; gathers = λ g. g }

-- So memory is wanted at an idle desk alone.
pub starved_idle : (room : Bool) (st st' : State) (s : Said) → stops memory st' ≡ applying room st s → st ≡ idle
starved_idle room st st' s e =
    ⊎_elim (λ none. none) (λ fed. absurd (clash (sym fed ∙ sym (ap starves e)))) (sound room st s).fed

pub kept_open : (room : Bool) (st st' : State) (s : Said) → goes st' ≡ applying room st s → st' ≡ idle → ⊥
kept_open room st st' s e i = clash (sym (sound room st s).stays ∙ sym (ap clears e) ∙ ap (λ x. clears (goes x)) i)

pub refused_unchanged : (room : Bool) (st : State) (s : Said) (a : After) → a ≡ applying room st s → Unchanged st a
refused_unchanged room st s a e = subst (Unchanged st) (sym e) (sound room st s).same

pub applied_gathered : (room : Bool) (st : State) (s : Said) → OnDesk st → Leaves (applying room st s)
applied_gathered room st s = (sound room st s).gathers
