-- The eigenvalues of a symmetric 2×2 block in closed form, and the shift taken from one. Definitions only.
use Rattle.std.specs.Prelude.{cond, Some, None, Option}
use Rattle.scalar.specs.Ops.{Ops, RealOps}
use Rattle.eigen.specs.declared.eigenvalues.Vector2.{Vector2}

abbrev pub vector_of : {R : Type 0} → R → R → Vector2 R
vector_of x y = record { x = x; y = y }

module _ {R : Type 0} (ops : Ops R R) (real : RealOps R) where
  abbrev pub half_difference : R → R → R
  half_difference a b = ops.mul (ops.sub a b) real.half

  abbrev pub half_sum : R → R → R
  half_sum a b = ops.mul (ops.add a b) real.half

  -- h10·h01 + the square of half the difference of the diagonal
  abbrev pub discriminant : R → R → R → R → R
  discriminant h00 h10 h01 h11 =
      ops.add (ops.mul h10 h01) (ops.mul (half_difference h00 h11) (half_difference h00 h11))

  -- half the trace, more and less the root of the discriminant; none where that is not at or above zero
  abbrev pub eigenvalues : R → R → R → R → Option (Vector2 R)
  eigenvalues h00 h10 h01 h11 = cond (real.le ops.zero (discriminant h00 h10 h01 h11))
      (Some (vector_of (ops.add (half_sum h00 h11) (real.root (discriminant h00 h10 h01 h11)))
      (ops.sub (half_sum h00 h11) (real.root (discriminant h00 h10 h01 h11)))))
      None

  -- d + sign(d)·root(d·d + q), where the sign of -0 is -1
  abbrev pub shift_divisor : R → R → R
  shift_divisor d q = ops.add d (ops.mul (ops.sign d) (real.root (ops.add (ops.mul d d) q)))

  -- of the block (tmm tmn)(tmn tnn), the eigenvalue at its last entry
  abbrev pub wilkinson_shift : R → R → R → R
  wilkinson_shift tmm tnn tmn = cond (ops.is_zero (ops.mul tmn tmn)) tnn
      (ops.sub tnn (real.div (ops.mul tmn tmn) (shift_divisor (half_difference tmm tnn) (ops.mul tmn tmn))))
