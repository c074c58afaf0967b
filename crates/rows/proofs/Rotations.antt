-- A turn of rows that stand column by column, one row after the other. Assumes nothing.
use Rattle.std.proofs.Common.{◌≡◌, ℕ, zero, suc, true, ◌+◌, ◌*◌, ◌<◌, ◌≤◌, ◌≢◌, List, [], ◌∷◌, ◌++◌, map, length, get_or, take, drop, set, sym, ap, ap₂, ◌∙◌, append-nil, le_of_suc-le-suc, not-suc-le-zero, zero-add, arith}
use Rattle.std.specs.List.{range_with_len}
use Rattle.std.proofs.lemmas.List.FromFn.{length-map-range_with_len, get_or-map-range_with_len}
use Rattle.std.proofs.lemmas.List.Edits.{map_over_more}
use Rattle.std.proofs.lemmas.List.{length-set, get_or-set_same, get_or-set_other, set-set, take_all, drop_all}
use Rattle.scalar.specs.Ops.{Ops}
use Rattle.rows.specs.Turns.{Turn, first, second, sine, turn_at, turned}
use Rattle.rows.specs.Makes.{all_rows_fit, entries_turned, row_of, rows_of}
use Rattle.rows.proofs.Places.{same_row, same_column, place_below, first_place, second_place, set_map_counting}
use Rattle.rows.proofs.Held.{fit_length}

-- a turn writes two places of the row, of which the old entries are a and b
turn_at_sets : {C R : Type 0} (ops : Ops C R) (c : R) (t : C) (i : ℕ) (row : List C) (d a b : C) → suc i < length row →
    get_or row i d ≡ a → get_or row (suc i) d ≡ b →
    set (set row i (first ops c t a b)) (suc i) (second ops c t a b) ≡ turn_at ops c t i row
turn_at_sets ops c t i [] d a b h ea eb = absurd (not-suc-le-zero h)
turn_at_sets ops c t i (x ∷ []) d a b h ea eb = absurd (not-suc-le-zero (le_of_suc-le-suc h))
turn_at_sets ops c t zero (x ∷ (y ∷ row)) d a b h ea eb =
    ap₂ (λ v u. first ops c t v u ∷ (second ops c t v u ∷ row)) (sym ea) (sym eb)
turn_at_sets ops c t (suc i) (x ∷ (y ∷ row)) d a b h ea eb =
    ap (λ l. x ∷ l) (turn_at_sets ops c t i (y ∷ row) d a b (le_of_suc-le-suc h) ea eb)

module _ {C : Type 0} (d : C) (w n : ℕ) where
  -- a write at row r and column i changes that place of that row, and no other row
  row_set : (cells : List C) (r i : ℕ) (v : C) → r < n → i < w → length cells ≡ w * n →
      row_of d w n (set cells (r + i * n) v) r ≡ set (row_of d w n cells r) i v
  row_set cells r i v hr hi len =
      let inside : r + i * n < length cells = omega (arith, place_below w n r i hr hi) in
      set_map_counting (λ j. get_or cells (r + j * n) d) (λ j. get_or (set cells (r + i * n) v) (r + j * n) d) w i v hi
      (get_or-set_same cells (r + i * n) v d inside)
      (λ j hj ne. get_or-set_other cells (r + i * n) (r + j * n) v d (λ e. ne (same_column n r r j i hr hr e)))

  other_row : (cells : List C) (r k i : ℕ) (v : C) → r < n → k < n → k ≢ r →
      row_of d w n (set cells (r + i * n) v) k ≡ row_of d w n cells k
  other_row cells r k i v hr hk ne =
      let other : (j : ℕ) → get_or (set cells (r + i * n) v) (k + j * n) d ≡ get_or cells (k + j * n) d =
      λ j. get_or-set_other cells (r + i * n) (k + j * n) v d (λ e. ne (same_row n k r j i hk hr e)) in
      λ s. map (λ j. other j s) (range_with_len 0 w)

  rows_set : (cells : List C) (r i : ℕ) (v : C) → r < n → i < w → length cells ≡ w * n →
      rows_of d w n (set cells (r + i * n) v) ≡ set (rows_of d w n cells) r (set (row_of d w n cells r) i v)
  rows_set cells r i v hr hi len =
      set_map_counting (row_of d w n cells) (row_of d w n (set cells (r + i * n) v)) n r (set (row_of d w n cells r) i v) hr
      (row_set cells r i v hr hi len) (λ k hk ne. other_row cells r k i v hr hk ne)

  rows_set_two : (cells : List C) (r i j : ℕ) (v u : C) → r < n → i < w → j < w → length cells ≡ w * n →
      rows_of d w n (set (set cells (r + i * n) v) (r + j * n) u) ≡
      set (rows_of d w n cells) r (set (set (row_of d w n cells r) i v) j u)
  rows_set_two cells r i j v u hr hi hj len =
      rows_set (set cells (r + i * n) v) r j u hr hj (length-set cells (r + i * n) v ∙ len)
      ∙ ap₂ (λ rows row. set rows r (set row j u)) (rows_set cells r i v hr hi len) (row_set cells r i v hr hi len)
      ∙ set-set (rows_of d w n cells) r (set (row_of d w n cells r) i v) (set (set (row_of d w n cells r) i v) j u)

module _ {C R : Type 0} (ops : Ops C R) (c : R) (t : C) (w n i : ℕ) (inside : suc i < w) where
  -- the entries of a row at the two columns
  row_turned : (cells : List C) (r : ℕ) → r < n → length cells ≡ w * n →
      rows_of ops.zero w n (entries_turned ops c t (i * n + r) ((i * n + n) + r) cells) ≡
      set (rows_of ops.zero w n cells) r (turn_at ops c t i (row_of ops.zero w n cells r))
  row_turned cells r hr len =
      let d = ops.zero in
      let entry : ℕ → C = λ j. get_or cells (r + j * n) d in
      let is : (j : ℕ) → j < w → get_or (row_of d w n cells r) j d ≡ entry j =
      λ j h. get_or-map-range_with_len entry 0 w j j d h (zero-add j) in
      let hi : i < w = omega arith in
      let whole : length (row_of d w n cells r) ≡ w = length-map-range_with_len entry 0 w in
      let two : suc i < length (row_of d w n cells r) = omega arith in
      ap₂ (λ x y. rows_of d w n (entries_turned ops c t x y cells)) (first_place n r i) (second_place n r i)
      ∙ rows_set_two d w n cells r i (suc i) (first ops c t (entry i) (entry (suc i))) (second ops c t (entry i) (entry (suc i)))
      hr hi inside len
      ∙ ap (set (rows_of d w n cells) r)
      (turn_at_sets ops c t i (row_of d w n cells r) d (entry i) (entry (suc i)) two (is i hi) (is (suc i) inside))

-- the first rows are turned, and the others as they were: one row more, and after the last row
module _ {C R : Type 0} (ops : Ops C R) (turn : Turn R) (w n : ℕ) (before : List C) where
  abbrev rows : List (List C)
  rows = rows_of ops.zero w n before

  pub one_more : (cells after : List C) (r : ℕ) (t : C) → turn.column + 1 < w → r < n → all_rows_fit w n (length before) ≡ true →
      length cells ≡ length before → t ≡ sine ops turn.direction turn.s →
      after ≡ entries_turned ops turn.c t (turn.column * n + r) ((turn.column * n + n) + r) cells →
      rows_of ops.zero w n cells ≡ map (turned ops turn) (take r rows) ++ drop r rows →
      rows_of ops.zero w n after ≡ map (turned ops turn) (take (r + 1) rows) ++ drop (r + 1) rows
  one_more cells after r t inside hr fit len ts is inv =
      let next : suc turn.column < w = omega arith in
      let all : length rows ≡ n = length-map-range_with_len (row_of ops.zero w n before) 0 n in
      let below : r < length rows = omega arith in
      let row = row_of ops.zero w n cells in
      ap (rows_of ops.zero w n) (is ∙ ap (λ x. entries_turned ops turn.c x (turn.column * n + r) ((turn.column * n + n) + r) cells) ts)
      ∙ row_turned ops turn.c (sine ops turn.direction turn.s) w n turn.column next cells r hr (len ∙ fit_length w n (length before) fit)
      ∙ map_over_more (turned ops turn) rows (rows_of ops.zero w n cells) r (row r) below inv
      (sym (get_or-map-range_with_len row 0 n r r (row r) hr (zero-add r)))

  pub all_turned : (cells : List C) (r : ℕ) → n ≤ r →
      rows_of ops.zero w n cells ≡ map (turned ops turn) (take r rows) ++ drop r rows →
      rows_of ops.zero w n cells ≡ map (turned ops turn) rows
  all_turned cells r h inv =
      let all : length rows ≡ n = length-map-range_with_len (row_of ops.zero w n before) 0 n in
      let past : length rows ≤ r = omega arith in
      inv ∙ ap₂ (λ done left. map (turned ops turn) done ++ left) (take_all r rows past) (drop_all r rows past)
      ∙ append-nil (map (turned ops turn) rows)
