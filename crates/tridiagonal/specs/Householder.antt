-- Householder reflections, for every number kind. Definitions only.
use Rattle.std.specs.Prelude.{Bool, cond, not, List, slice_index_or, slice_set}
use Rattle.scalar.specs.Ops.{Ops, RealOps}
use Rattle.tridiagonal.specs.Blas.{dotc_of, axpy_of, norm_squared_of, norm_of, unscaled, normalised}

-- a number kind with its real kind
pub record Kind (C R : Type 0) : Type 0 where
  pub ops : Ops C R
  pub reals : Ops R R
  pub real : RealOps R

abbrev pub kind : {C R : Type 0} → Ops C R → Ops R R → RealOps R → Kind C R
kind o q r = record { ops = o; reals = q; real = r }

-- the column's norm with the sign of its first entry
unfoldable pub signed_norm : {C R : Type 0} → Kind C R → List C → C
signed_norm K xs = K.ops.scale (K.ops.split (slice_index_or xs 0 K.ops.zero)).1 (norm_of K.ops K.real xs)

-- twice the sum of the squared norm, and of the first entry's modulus by the norm
unfoldable pub axis_factor : {C R : Type 0} → Kind C R → List C → R
axis_factor K xs =
    K.reals.mul
    (K.reals.add (norm_squared_of K.ops xs)
    (K.reals.mul (K.ops.split (slice_index_or xs 0 K.ops.zero)).0 (norm_of K.ops K.real xs)))
    K.real.two

-- there is a reflection unless the factor is zero
unfoldable pub axis_reflects : {C R : Type 0} → Kind C R → List C → Bool
axis_reflects K xs = not (K.reals.is_zero (axis_factor K xs))

-- the norm is reported with the opposite sign where there is a reflection
unfoldable pub axis_norm : {C R : Type 0} → Kind C R → List C → C
axis_norm K xs = cond (axis_reflects K xs) (K.ops.neg (signed_norm K xs)) (signed_norm K xs)

-- the first entry takes the signed norm
unfoldable pub first_moved : {C R : Type 0} → Kind C R → List C → List C
first_moved K xs = slice_set xs 0 (K.ops.add (slice_index_or xs 0 K.ops.zero) (signed_norm K xs))

-- and where there is a reflection the column is divided by the factor's root and then by its own norm
unfoldable pub axis_of : {C R : Type 0} → Kind C R → List C → List C
axis_of K xs =
    cond (axis_reflects K xs)
    (normalised K.ops K.real (unscaled K.ops (K.real.root (axis_factor K xs)) (first_moved K xs)))
    (first_moved K xs)

-- a column reflected across the axis, by a factor of -2, and multiplied by the sign
unfoldable pub reflected : {C R : Type 0} → Kind C R → List C → C → List C → List C
reflected K axis sign ys =
    axpy_of K.ops
    (K.ops.mul (K.ops.sub (dotc_of K.ops axis ys) K.ops.zero) (K.ops.scale sign K.real.minus_two))
    axis sign ys
