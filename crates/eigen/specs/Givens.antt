-- Givens rotations of a pair of real numbers. Definitions only.
use Rattle.std.specs.Prelude.{cond, Some, None, Option}
use Rattle.scalar.specs.Ops.{Ops, RealOps}
use Rattle.eigen.specs.declared.givens.Rotation.{Rotation}
use Rattle.eigen.specs.declared.givens.Normed.{Normed}

abbrev pub rotation_of : {R : Type 0} → R → R → Rotation R
rotation_of c s = record { c = c; s = s }

abbrev pub normed_of : {R : Type 0} → R → R → R → Normed R
normed_of c s norm = record { rotation = rotation_of c s; norm = norm }

module _ {R : Type 0} (ops : Ops R R) (real : RealOps R) where
  -- the root of m·m + y·y, where m is x without its sign
  abbrev pub length_of : R → R → R
  length_of x y = real.root (ops.add (ops.mul (ops.split x).0 (ops.split x).0) (ops.mul y y))

  -- the length with the sign of x
  abbrev pub signed_length : R → R → R
  signed_length x y = ops.scale (ops.split x).1 (length_of x y)

  -- the cosine of the rotation to or from (x, y)
  abbrev pub cosine_of : R → R → R
  cosine_of x y = real.div (ops.split x).0 (length_of x y)

  -- the rotation that takes (x, y) to (±length, 0); none where y is zero
  abbrev pub cancel_y : R → R → Option (Normed R)
  cancel_y x y = cond (ops.is_zero y) None
      (Some (normed_of (cosine_of x y) (real.div (ops.neg y) (signed_length x y)) (signed_length x y)))

  -- the rotation whose cosine and sine are as x and y; none unless their length is above the tolerance
  abbrev pub try_new : R → R → R → Option (Normed R)
  try_new x y tolerance = cond (real.lt tolerance (length_of x y))
      (Some (normed_of (cosine_of x y) (real.div y (signed_length x y)) (signed_length x y))) None
