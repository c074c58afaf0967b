-- Products with a Hermitian table, which is given by its lower columns, and rank-one updates of it. Definitions only.
use Rattle.std.specs.Prelude.{List, [], ◌∷◌, drop, slice_index_or}
use Rattle.scalar.specs.Ops.{Ops}
use Rattle.tridiagonal.specs.Blas.{dotc_of, axc_of, axpy_of}

module _ {C R : Type 0} (o : Ops C R) (a : C) where
  -- What one column c adds to the product a·(A·x): its row's sum to the first entry, and its own entries to those below.
  abbrev pub row_sum : List C → List C → List C → C
  row_sum c xs ps = o.add (slice_index_or ps 0 o.zero) (o.mul a (dotc_of o c xs))

  abbrev pub below_sum : List C → List C → List C → List C
  below_sum c xs ps = axpy_of o (o.mul a (slice_index_or xs 0 o.zero)) (drop 1 c) o.one (drop 1 ps)

  unfoldable pub hegemv_from : List (List C) → List C → List C → List C
  hegemv_from [] xs ps = ps
  hegemv_from (c ∷ cs) xs ps = row_sum c xs ps ∷ hegemv_from cs (drop 1 xs) (below_sum c xs ps)

  -- The first column is not added to anything.
  abbrev pub first_column : List C → List C → List C
  first_column c xs = axc_of o (o.mul a (slice_index_or xs 0 o.zero)) c

  abbrev pub first_sum : List C → List C → C
  first_sum c xs = o.add (slice_index_or (first_column c xs) 0 o.zero) (o.mul a (dotc_of o (drop 1 c) (drop 1 xs)))

  -- a·(A·x), from A's lower columns
  unfoldable pub hegemv_of : List (List C) → List C → List C
  hegemv_of [] xs = []
  hegemv_of (c ∷ cs) xs = first_sum c xs ∷ hegemv_from cs (drop 1 xs) (drop 1 (first_column c xs))

  -- A + a·x·y*, on A's lower columns
  unfoldable pub hegerc_of : List C → List C → List (List C) → List (List C)
  hegerc_of xs ys [] = []
  hegerc_of xs ys (c ∷ cs) = axpy_of o (o.mul a (o.conj (slice_index_or ys 0 o.zero))) xs o.one c ∷ hegerc_of (drop 1 xs) (drop 1 ys) cs

-- A + a·x·w* + a·w·x* + d·w·w*, each on the one before
abbrev pub hegerc_three_of : {C R : Type 0} → Ops C R → C → C → List C → List C → List (List C) → List (List C)
hegerc_three_of o a d xs ws cs = hegerc_of o d ws ws (hegerc_of o a ws xs (hegerc_of o a xs ws cs))
