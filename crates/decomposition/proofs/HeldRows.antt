-- What a keeper's rows hold, read cell by cell and column by column.
use Rattle.std.proofs.Common.{◌≡◌, ℕ, zero, suc, ◌+◌, ◌*◌, ◌<◌, ◌≤◌, List, [], ◌∷◌, ◌++◌, Ok, Err, Result, length, get_or, take, sym, refl, ap, ◌∙◌, suc-mul, zero-mul, add-one}
use Rattle.std.proofs.lemmas.List.{length-append, length-map, map_more, take_all}
use Rattle.fault.specs.declared.Fault.{Fault}
use Rattle.rows.specs.Keepers.{Answer, given, denied, answered, read_at, cell_at}
use Rattle.std.specs.Result.{result_unwrap_or}
use Rattle.decomposition.specs.Solutions.{column_of, by_columns}

module _ {C : Type 0} (d : C) where
  unfoldable pub or_else : Answer C → C
  or_else (given x) = x
  or_else (denied w) = d

  pub unwrapped : (a : Result C Fault) → result_unwrap_or a d ≡ or_else (answered a)
  unfolding or_else
  unwrapped (Ok x) = refl
  unwrapped (Err e) = refl

  read_or : (row : List C) (i : ℕ) → or_else (read_at row i) ≡ get_or row i d
  unfolding or_else
  read_or [] i = refl
  read_or (x ∷ row) zero = refl
  read_or (x ∷ row) (suc i) = read_or row i

  pub cell_or : (rows : List (List C)) (r i : ℕ) → or_else (cell_at rows r i) ≡ get_or (get_or rows r []) i d
  unfolding or_else
  cell_or [] r i = refl
  cell_or (row ∷ rows) zero i = read_or row i
  cell_or (row ∷ rows) (suc r) i = cell_or rows r i

  -- the columns are as long as there are rows
  pub length_columns : (rows : List (List C)) (k : ℕ) → length (by_columns d rows k) ≡ k * length rows
  unfolding by_columns
  length_columns rows zero = sym (zero-mul (length rows))
  length_columns rows (suc k) =
      length-append (by_columns d rows k) (column_of d rows k)
      ∙ ap (λ (m : ℕ). m + length (column_of d rows k)) (length_columns rows k)
      ∙ ap (λ (m : ℕ). k * length rows + m) (length-map rows (λ row. get_or row k d))
      ∙ sym (suc-mul k (length rows))

  pub columns_none : (rows : List (List C)) → by_columns d rows 0 ≡ []
  unfolding by_columns
  columns_none rows = refl

  pub columns_more : (rows : List (List C)) (k : ℕ) → by_columns d rows (k + 1) ≡ by_columns d rows k ++ column_of d rows k
  unfolding by_columns
  columns_more rows k = rw add-one

  -- a column, cell by cell
  pub column_step : (rows : List (List C)) (r i : ℕ) → r < length rows →
      column_of d (take (r + 1) rows) i ≡ column_of d (take r rows) i ++ get_or (get_or rows r []) i d ∷ []
  column_step rows r i h = map_more (λ (row : List C). get_or row i d) rows r [] h

  pub column_whole : (rows : List (List C)) (r i : ℕ) → length rows ≤ r → column_of d (take r rows) i ≡ column_of d rows i
  column_whole rows r i h = ap (λ (l : List (List C)). column_of d l i) (take_all r rows h)
