-- The reduction to tridiagonal form, over the lower columns of a table. Definitions only.
use Rattle.std.specs.Prelude.{ℕ, zero, suc, cond, List, [], ◌∷◌, ◌++◌, map, take, drop, slice_index_or}
use Rattle.tridiagonal.specs.Blas.{dotc_of}
use Rattle.tridiagonal.specs.Householder.{Kind, axis_of, axis_norm, axis_reflects}
use Rattle.tridiagonal.specs.Hermitian.{hegemv_of, hegerc_of}

module _ {C R : Type 0} (K : Kind C R) where
  abbrev pub two : C
  two = K.ops.embed K.real.two

  abbrev pub minus_one : C
  minus_one = K.ops.neg K.ops.one

  -- twice the product of the square with the axis
  abbrev pub double_product : List C → List (List C) → List C
  double_product axis cs = hegemv_of K.ops two cs axis

  -- the square reflected from both sides, in three rank-one updates
  abbrev pub three_updates : List C → List C → List (List C) → List (List C)
  three_updates axis p cs =
      hegerc_of K.ops (K.ops.mul (dotc_of K.ops axis p) two) axis axis
      (hegerc_of K.ops minus_one axis p (hegerc_of K.ops minus_one p axis cs))

  unfoldable pub updated : List C → List (List C) → List (List C)
  updated axis cs = three_updates axis (double_product axis cs) cs

  -- One step: the part of the first column below its diagonal entry becomes an axis, and where there is a
  -- reflection the square right of it and below is reflected.
  unfoldable pub stepped_column : List C → List C
  stepped_column c = take 1 c ++ axis_of K (drop 1 c)

  unfoldable pub stepped_rest : List C → List (List C) → List (List C)
  stepped_rest c cs = cond (axis_reflects K (drop 1 c)) (updated (axis_of K (drop 1 c)) cs) cs

  -- the table after a number of steps
  unfoldable pub reduced_columns : ℕ → List (List C) → List (List C)
  reduced_columns zero cs = cs
  reduced_columns (suc m) [] = []
  reduced_columns (suc m) (c ∷ cs) = stepped_column c ∷ reduced_columns m (stepped_rest c cs)

  -- the norms that they report
  unfoldable pub reduced_norms : ℕ → List (List C) → List C
  reduced_norms zero cs = []
  reduced_norms (suc m) [] = []
  reduced_norms (suc m) (c ∷ cs) = axis_norm K (drop 1 c) ∷ reduced_norms m (stepped_rest c cs)

  -- the real parts of the diagonal
  abbrev pub diagonal : List (List C) → List R
  diagonal cs = map (λ c. K.ops.real (slice_index_or c 0 K.ops.zero)) cs
