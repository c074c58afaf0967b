-- Every table that was opened and typed is gathered: opening makes it so, and each command keeps it.
use Rattle.std.proofs.Common.{◌≡◌, ℕ, zero, suc, ◌*◌, ◌<◌, ◌≤◌, Bool, true, false, cond, T, ltb, leb, List, ◌∷◌, map, length, get_or, set, replicate, is_some, Some, None, Option, sym, refl, ap, ◌∙◌, ltb-true, leb-true, arith}
use lib.Ieee.{Float}
use Rattle.std.proofs.lemmas.List.{length-map, length-replicate, get_or-map, get_or-replicate}
use Rattle.std.proofs.lemmas.List.Elements.{All-set}
use Rattle.std.proofs.lemmas.Bool.{and_parts}
use Rattle.fault.specs.Bounds.{limit_fits}
use Rattle.scalar.specs.Ops.{Ops, RealOps, LargerLaws, SizeLaws}
use Rattle.job.specs.Gathered.{Gathered, HasSize, Sized, conjugated, largest_of, largest_size}
use Rattle.job.specs.Typed.{Typed, Outcome, blank, entries, entry_of, is_lower, is_tolerance, is_typed, limiting}
use Rattle.job.specs.Typed.{place, putting, tolerating, written}
use Rattle.job.proofs.Folds.{largest_pair, largest_zeros, zeros_sized}
use Rattle.job.proofs.Places.{place_inside}
use Rattle.job.proofs.Mirrors.{placed_entries, placed_mirrored, placed_whole, above_inside, at_inside, above_free}

-- what both ways of a test have
kept : {C R : Type 0} (P : Typed C R → Type 0) (b : Bool) (u v : Outcome C R) →
    (b ≡ true → P u.1) → (b ≡ false → P v.1) → P (cond b u v).1
kept P true u v p q = p refl
kept P false u v p q = q refl

untyped : {C : Type 0} (cell : Option C) → is_some cell ≡ false → cell ≡ None
untyped None e = refl
untyped (Some x) e = cc

zeros : {C R : Type 0} (ops : Ops C R) (n : ℕ) → map (entry_of ops) (replicate n None) ≡ replicate n ops.zero
zeros ops zero = refl
zeros ops (suc n) = ap (λ xs. ops.zero ∷ xs) (zeros ops n)

module _ {C R : Type 0} (ops : Ops C R) (real : RealOps R) where
  pub blank_gathered : SizeLaws ops real → (n : ℕ) → Gathered ops real (blank ops n)
  blank_gathered sizes n = record {
    whole = length-replicate (n * n) None;
    mirrored =
        λ row column l r. get_or-replicate (n * n) (place n column row) None None (place_inside n column row (omega arith) r) ∙
        sym (ap (conjugated ops) (get_or-replicate (n * n) (place n row column) None None (place_inside n row column r (omega arith))));
    sized = rw (zeros ops (n * n)) (zeros_sized ops real sizes (n * n));
    largest = sym (ap (largest_size ops real) (zeros ops (n * n)) ∙ largest_zeros ops real sizes (n * n));
  }

  -- the tolerance and the limit are no part of it
  beside : (j : Typed C R) (t : Float) (t_given : Bool) (n : ℕ) (n_given : Bool) → Gathered ops real j →
      Gathered ops real (record j { tolerance = t; tolerance_given = t_given; limit = n; limit_given = n_given })
  beside j t t_given n n_given h = record { whole = h.whole; mirrored = h.mirrored; sized = h.sized; largest = h.largest }

  pub tolerating_gathered : (j : Typed C R) (t : Float) → Gathered ops real j → Gathered ops real (tolerating j t).1
  tolerating_gathered j t h =
      kept (Gathered ops real) (is_tolerance t) _ _
      (λ _. kept (Gathered ops real) j.tolerance_given _ _ (λ _. h) (λ _. beside j t true j.limit j.limit_given h))
      (λ _. h)

  pub limiting_gathered : (j : Typed C R) (n : ℕ) → Gathered ops real j → Gathered ops real (limiting j n).1
  limiting_gathered j n h =
      kept (Gathered ops real) (limit_fits n) _ _
      (λ _. kept (Gathered ops real) j.limit_given _ _ (λ _. h) (λ _. beside j j.tolerance j.tolerance_given n true h))
      (λ _. h)

  module _ (laws : LargerLaws real) (sizes : SizeLaws ops real) where
    -- a number typed into a free place on or below the diagonal
    pub written_gathered : (j : Typed C R) (row column : ℕ) (x : C) → column ≤ row → row < j.side →
        get_or j.cells (place j.side row column) None ≡ None → HasSize ops real x →
        Gathered ops real j → Gathered ops real (written ops real j row column x)
    written_gathered j row column x lower inside free size h = record {
      whole = placed_whole ops j.side j.cells row column x ∙ h.whole;
      mirrored = placed_mirrored ops j.side j.cells row column x h.whole lower inside h.mirrored;
      sized = rw (placed_entries ops j.side j.cells row column x) sized_after;
      largest =
          ap (λ n. real.larger n (ops.size x)) h.largest ∙
          sym (ap (largest_size ops real) (placed_entries ops j.side j.cells row column x) ∙ grown);
    }
      where
        at_in : place j.side row column < length j.cells
        at_in = at_inside ops j.side j.cells row column x h.whole lower inside

        above_in : place j.side column row < length j.cells
        above_in = above_inside ops j.side j.cells row column x h.whole lower inside

        above_none : get_or j.cells (place j.side column row) None ≡ None
        above_none = above_free ops j.side j.cells row column x h.whole lower inside h.mirrored free

        conj_size : HasSize ops real (ops.conj x)
        conj_size = rw (sizes.conjugate x) size

        after : List C
        after = set (set (entries ops j) (place j.side column row) (ops.conj x)) (place j.side row column) x

        sized_after : Sized ops real after
        sized_after =
            All-set (HasSize ops real) (set (entries ops j) (place j.side column row) (ops.conj x)) (place j.side row column) x size
            (All-set (HasSize ops real) (entries ops j) (place j.side column row) (ops.conj x) conj_size h.sized)

        grown : largest_size ops real after ≡ real.larger (largest_of ops real j) (ops.size x)
        grown =
            largest_pair ops real laws sizes (entries ops j) (place j.side column row) (place j.side row column) (ops.conj x) x
            h.sized size (sizes.conjugate x)
            (rw (length-map j.cells (entry_of ops)) above_in)
            (rw (length-map j.cells (entry_of ops)) at_in)
            (get_or-map (entry_of ops) j.cells (place j.side column row) None ops.zero above_in ∙ ap (entry_of ops) above_none)
            (get_or-map (entry_of ops) j.cells (place j.side row column) None ops.zero at_in ∙ ap (entry_of ops) free)

    pub putting_gathered : (j : Typed C R) (row column : ℕ) (x : C) →
        (T (real.is_finite (ops.size x)) → HasSize ops real x) →
        Gathered ops real j → Gathered ops real (putting ops real j row column x).1
    putting_gathered j row column x sized h =
        kept (Gathered ops real) (is_lower j.side row column) _ _
        (λ lower. kept (Gathered ops real) (real.is_finite (ops.size x)) _ _
        (λ finite. kept (Gathered ops real) (is_typed j row column) _ _ (λ _. h)
        (λ free. let two = and_parts (leb column row) (ltb row j.side) lower in
        written_gathered j row column x (leb-true column row two.0) (ltb-true row j.side two.1) (untyped _ free)
        (sized (rw finite tt)) h))
        (λ _. h))
        (λ _. h)
