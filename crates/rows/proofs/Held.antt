-- What keepers hold after their checks, and after a turn. Assumes nothing.
use Rattle.std.proofs.Common.{◌≡◌, ℕ, ◌+◌, ◌-◌, ◌*◌, ◌<◌, ◌≤◌, ◌⊎◌, Bool, true, false, ◌&&◌, ◌||◌, eqb, ltb, List, ◌++◌, length, get_or, sym, ap, ◌∙◌, ⊎_elim}
use Rattle.std.proofs.lemmas.List.FromFn.{length-map-range_with_len}
use Rattle.std.proofs.lemmas.Bool.{and_parts, eqb-true, ltb-true, ltb-false, cond-true, cond_both, cases_Bool}
use Rattle.fault.specs.Bounds.{side_fits}
use Rattle.rows.specs.Keepers.{Kept, Answer, given, outside, cell_at}
use Rattle.rows.specs.Makes.{all_rows, all_rows_fit, counts_kept, count_fits, row_of, rows_of, both, both_fit, either_cell, nothing}
use Rattle.rows.proofs.Cells.{cell_in, cell_past, cell_at_first, cell_at_second}

pub fit_length : (w n l : ℕ) → all_rows_fit w n l ≡ true → l ≡ w * n
fit_length w n l e = eqb-true l (w * n) (and_parts (side_fits w && count_fits n) (eqb l (w * n)) e).1

-- all rows of a slice
module _ {C : Type 0} (d : C) (w n : ℕ) (cells : List C) where
  abbrev pub held : Kept C
  held = record { width = w; rows = rows_of d w n cells }

  pub all_rows_held : all_rows_fit w n (length cells) ≡ true → all_rows d w n cells ≡ held
  all_rows_held e = cond-true (all_rows_fit w n (length cells)) held nothing e

  pub all_rows_kept : counts_kept w n (length cells) ≡ true → all_rows d w n cells ≡ held
  all_rows_kept e =
      ⊎_elim all_rows_held
      (λ (no : all_rows_fit w n (length cells) ≡ false).
      let none = and_parts (eqb w 0) (eqb n 0) (ap (λ (b : Bool). b || (eqb w 0 && eqb n 0)) (sym no) ∙ e) in
      rw (eqb-true w 0 none.0, eqb-true n 0 none.1))
      (cases_Bool (all_rows_fit w n (length cells)))

  pub all_rows_count : counts_kept w n (length cells) ≡ true → n ≡ length (all_rows d w n cells).rows
  all_rows_count e =
      sym (ap (λ (k : Kept C). length k.rows) (all_rows_kept e) ∙ length-map-range_with_len (row_of d w n cells) 0 n)

  pub all_rows_cell : (r i : ℕ) → counts_kept w n (length cells) ≡ true → r < n → i < w →
      given (get_or cells (r + i * n) d) ≡ cell_at (all_rows d w n cells).rows r i
  all_rows_cell r i e hr hi =
      sym (ap (λ (k : Kept C). cell_at k.rows r i) (all_rows_kept e) ∙ cell_in d w n cells r i hr hi)

  pub all_rows_outside : (r i : ℕ) → counts_kept w n (length cells) ≡ true → (n ≤ r) ⊎ (w ≤ i) →
      outside ≡ cell_at (all_rows d w n cells).rows r i
  all_rows_outside r i e h =
      sym (ap (λ (k : Kept C). cell_at k.rows r i) (all_rows_kept e) ∙ cell_past d w n cells r i h)

-- both: the first's rows, then the second's
module _ {C : Type 0} (a b : Kept C) where
  abbrev joined : Kept C
  joined = record { width = a.width; rows = a.rows ++ b.rows }

  pub both_joined : both_fit a b ≡ true → both a b ≡ joined
  both_joined e = cond-true (both_fit a b) joined nothing e

-- a place of both
pub either_cell_is : {C : Type 0} (a b : Kept C) (r i : ℕ) → both_fit a b ≡ true →
    either_cell a.rows b.rows r i ≡ cell_at (both a b).rows r i
either_cell_is {C} a b r i e =
    cond_both (ltb r (length a.rows)) (cell_at a.rows r i) (cell_at b.rows (r - length a.rows) i)
    (λ (x : Answer C). x ≡ cell_at (a.rows ++ b.rows) r i)
    (λ h. sym (cell_at_first a.rows b.rows r i (ltb-true r (length a.rows) h)))
    (λ h. sym (cell_at_second a.rows b.rows r i (ltb-false r (length a.rows) h)))
    ∙ ap (λ (k : Kept C). cell_at k.rows r i) (sym (both_joined a b e))
