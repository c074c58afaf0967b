-- The keepers that are made are sound: at most 65,536 rows, each of the width.
use Rattle.std.specs.Prelude.{◌≡◌, ℕ, ◌+◌, ◌*◌, ◌&&◌, List, [], All, ◌++◌, length, ◌==◌, nat_le}
use Rattle.std.proofs.Common.{arith, sym, subst, lit≤, not-suc-le-zero}
use Rattle.std.specs.List.{range_with_len}
use Rattle.std.proofs.lemmas.List.FromFn.{length-map-range_with_len}
use Rattle.std.proofs.lemmas.List.{length-append}
use Rattle.std.proofs.lemmas.List.Elements.{All-map, All-append}
use Rattle.std.proofs.lemmas.Bool.{and_parts, leb-true, eqb-true, cond_both}
use Rattle.fault.specs.Bounds.{side_fits}
use Rattle.rows.specs.Keepers.{Kept, Sound}
use Rattle.rows.specs.Makes.{all_rows, all_rows_fit, count_fits, row_of, rows_of, both, both_fit, nothing}

-- of any width, with no rows
pub no_rows_sound : {C : Type 0} (width : ℕ) → Sound {C = C} (record { width = width; rows = [] })
no_rows_sound width = record { few = lit≤ tt; even = λ k d none. absurd (not-suc-le-zero none) }

rows_even : {C : Type 0} (d : C) (width count : ℕ) (cells : List C) →
    All (λ row. length row ≡ width) (rows_of d width count cells)
rows_even d width count cells =
    All-map (λ row. length row ≡ width) (row_of d width count cells) (range_with_len 0 count)
    (λ r n h. length-map-range_with_len _ 0 width)

pub all_rows_sound : {C : Type 0} (d : C) (width count : ℕ) (cells : List C) → Sound (all_rows d width count cells)
all_rows_sound {C} d width count cells =
    cond_both (all_rows_fit width count (length cells)) (record { width = width; rows = rows_of d width count cells }) nothing
    (λ k. Sound {C = C} k)
    (λ e.
    let counts = (and_parts (side_fits width && count_fits count) (length cells == width * count) e).0 in
    let few = leb-true count 512 (and_parts (side_fits width) (count_fits count) counts).1 in
    let all = length-map-range_with_len (row_of d width count cells) 0 count in
    record { few = omega arith; even = rows_even d width count cells })
    (λ e. no_rows_sound 0)

pub both_sound : {C : Type 0} (a b : Kept C) → Sound a → Sound b → Sound (both a b)
both_sound {C} a b p q =
    cond_both (both_fit a b) (record { width = a.width; rows = a.rows ++ b.rows }) nothing (λ k. Sound {C = C} k)
    (λ e.
    let parts = and_parts (a.width == b.width) (nat_le (length a.rows + length b.rows) 65536) e in
    let few = leb-true (length a.rows + length b.rows) 65536 parts.1 in
    let all = length-append a.rows b.rows in
    let W : ℕ → Type 0 = λ w. All (λ (row : List C). length row ≡ w) b.rows in
    let second = subst W (sym (eqb-true a.width b.width parts.0)) q.even in
    record { few = omega arith; even = All-append (λ row. length row ≡ a.width) a.rows b.rows p.even second })
    (λ e. no_rows_sound 0)
