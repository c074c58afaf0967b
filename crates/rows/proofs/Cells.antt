-- Reads of a row and of a list of rows. Assumes nothing.
use Rattle.std.proofs.Common.{◌≡◌, ℕ, zero, suc, ◌+◌, ◌-◌, ◌*◌, ◌<◌, ◌≤◌, ◌⊎◌, List, [], ◌∷◌, ◌++◌, length, get_or, sym, refl, ⊎_elim, ap, ◌∙◌, le_of_suc-le-suc, not-suc-le-zero, zero-add, arith}
use native.Mathlib.Nat.{sub-zero, suc-sub-suc}
use Rattle.std.proofs.lemmas.List.FromFn.{length-map-range_with_len, get_or-map-range_with_len}
use Rattle.std.proofs.lemmas.Bool.{cases_lt}
use Rattle.rows.specs.Keepers.{given, outside, read_at, cell_at}
use Rattle.rows.specs.Makes.{row_of, rows_of}

read_at_in : {C : Type 0} (row : List C) (i : ℕ) (d : C) → i < length row → read_at row i ≡ given (get_or row i d)
read_at_in [] i d h = absurd (not-suc-le-zero h)
read_at_in (x ∷ row) zero d h = refl
read_at_in (x ∷ row) (suc i) d h = read_at_in row i d (le_of_suc-le-suc h)

read_at_past : {C : Type 0} (row : List C) (i : ℕ) → length row ≤ i → read_at row i ≡ outside
read_at_past [] i h = refl
read_at_past (x ∷ row) zero h = absurd (not-suc-le-zero h)
read_at_past (x ∷ row) (suc i) h = read_at_past row i (le_of_suc-le-suc h)

cell_at_in : {C : Type 0} (rows : List (List C)) (r i : ℕ) → r < length rows → cell_at rows r i ≡ read_at (get_or rows r []) i
cell_at_in [] r i h = absurd (not-suc-le-zero h)
cell_at_in (row ∷ rows) zero i h = refl
cell_at_in (row ∷ rows) (suc r) i h = cell_at_in rows r i (le_of_suc-le-suc h)

cell_at_past : {C : Type 0} (rows : List (List C)) (r i : ℕ) → length rows ≤ r → cell_at rows r i ≡ outside
cell_at_past [] r i h = refl
cell_at_past (row ∷ rows) zero i h = absurd (not-suc-le-zero h)
cell_at_past (row ∷ rows) (suc r) i h = cell_at_past rows r i (le_of_suc-le-suc h)

-- the first's rows, then the second's
pub cell_at_first : {C : Type 0} (fs ss : List (List C)) (r i : ℕ) → r < length fs → cell_at (fs ++ ss) r i ≡ cell_at fs r i
cell_at_first [] ss r i h = absurd (not-suc-le-zero h)
cell_at_first (a ∷ fs) ss zero i h = refl
cell_at_first (a ∷ fs) ss (suc r) i h = cell_at_first fs ss r i (le_of_suc-le-suc h)

pub cell_at_second : {C : Type 0} (fs ss : List (List C)) (r i : ℕ) → length fs ≤ r →
    cell_at (fs ++ ss) r i ≡ cell_at ss (r - length fs) i
cell_at_second [] ss r i h = ap (λ (k : ℕ). cell_at ss k i) (sym (sub-zero r))
cell_at_second (a ∷ fs) ss zero i h = absurd (not-suc-le-zero h)
cell_at_second (a ∷ fs) ss (suc r) i h =
    cell_at_second fs ss r i (le_of_suc-le-suc h) ∙ ap (λ (k : ℕ). cell_at ss k i) (sym (suc-sub-suc r (length fs)))

-- rows that stand column by column
module _ {C : Type 0} (d : C) (w n : ℕ) (cells : List C) where
  cell_row : (r i : ℕ) → r < n → cell_at (rows_of d w n cells) r i ≡ read_at (row_of d w n cells r) i
  cell_row r i h =
      let all : length (rows_of d w n cells) ≡ n = length-map-range_with_len (row_of d w n cells) 0 n in
      cell_at_in (rows_of d w n cells) r i (omega arith) ∙
      ap (λ (row : List C). read_at row i) (get_or-map-range_with_len (row_of d w n cells) 0 n r r [] h (zero-add r))

  pub cell_in : (r i : ℕ) → r < n → i < w → cell_at (rows_of d w n cells) r i ≡ given (get_or cells (r + i * n) d)
  cell_in r i hr hi =
      let all : length (row_of d w n cells r) ≡ w = length-map-range_with_len _ 0 w in
      cell_row r i hr ∙ read_at_in (row_of d w n cells r) i d (omega arith) ∙
      ap given (get_or-map-range_with_len (λ j. get_or cells (r + j * n) d) 0 w i i d hi (zero-add i))

  pub cell_past : (r i : ℕ) → (n ≤ r) ⊎ (w ≤ i) → cell_at (rows_of d w n cells) r i ≡ outside
  cell_past r i =
      let all : length (rows_of d w n cells) ≡ n = length-map-range_with_len (row_of d w n cells) 0 n in
      let whole : length (row_of d w n cells r) ≡ w = length-map-range_with_len _ 0 w in
      let beyond : n ≤ r → cell_at (rows_of d w n cells) r i ≡ outside = λ h. cell_at_past (rows_of d w n cells) r i (omega arith) in
      ⊎_elim beyond
      (λ (h : w ≤ i).
      ⊎_elim (λ (k : r < n). cell_row r i k ∙ read_at_past (row_of d w n cells r) i (omega arith)) beyond (cases_lt r n))
