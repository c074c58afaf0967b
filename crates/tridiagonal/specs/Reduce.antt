-- What a reduction answers and leaves. Definitions only.
use Rattle.std.specs.Prelude.{ℕ, ◌-◌, cond, List, map, fold, drop, slice_index_or}
use Rattle.tridiagonal.specs.Blas.{unscaled}
use Rattle.tridiagonal.specs.Householder.{Kind}
use Rattle.tridiagonal.specs.Tables.{lower, put}
use Rattle.tridiagonal.specs.Tridiagonal.{diagonal, reduced_columns, reduced_norms}

module _ {C R : Type 0} (K : Kind C R) where
  -- the larger of a size and that of one more entry
  abbrev pub larger_size : R → C → R
  larger_size l x = K.real.larger l (K.ops.size x)

  -- the first entry's size, and then the larger of it and each further one's
  unfoldable pub largest_size : List C → R
  largest_size t = fold larger_size (K.ops.size (slice_index_or t 0 K.ops.zero)) (drop 1 t)

  -- every entry divided by the largest size, unless that is zero
  unfoldable pub divided : R → List C → List C
  divided l xs = cond (K.reals.is_zero l) xs (unscaled K.ops l xs)

  -- The reduction reads the largest size, and the lower columns divided by it.
  unfoldable pub reduced_lower : ℕ → R → List (List C) → List (List C)
  reduced_lower n l cs = reduced_columns K (n - 1) (map (divided l) cs)

  unfoldable pub reduced_signs : ℕ → R → List (List C) → List C
  reduced_signs n l cs = reduced_norms K (n - 1) (map (divided l) cs)

  unfoldable pub reduced_offs : ℕ → R → List (List C) → List R
  reduced_offs n l cs = map K.ops.modulus (reduced_signs n l cs)

  unfoldable pub reduced_values : ℕ → R → List (List C) → List R
  reduced_values n l cs = diagonal K (reduced_lower n l cs)

  -- what is left of a table of side n
  abbrev pub signs_of : ℕ → List C → List C
  signs_of n t = reduced_signs n (largest_size t) (lower n 0 n t)

  abbrev pub offs_of : ℕ → List C → List R
  offs_of n t = reduced_offs n (largest_size t) (lower n 0 n t)

  abbrev pub values_of : ℕ → List C → List R
  values_of n t = reduced_values n (largest_size t) (lower n 0 n t)

  -- the whole table at the end: above the diagonal stand the entries divided
  unfoldable pub reduced_table : ℕ → List C → List C
  reduced_table n t = put n 0 n (reduced_lower n (largest_size t) (lower n 0 n t)) (divided (largest_size t) t)
