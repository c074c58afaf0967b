-- The meaning of complex numbers over a real kind: the product is (ac - bd, ad + bc), the rest goes by parts.
-- Definitions only.
use Rattle.std.specs.Prelude.{cond, ◌&&◌}
use Rattle.scalar.specs.Ops.{Ops, RealOps}
use Rattle.scalar.specs.declared.point.Complex.{Complex}

abbrev pub complex_of : {R : Type 0} → R → R → Complex R
complex_of a b = record { re = a; im = b }

-- The root of aa + bb.
abbrev pub modulus_of : {R : Type 0} → Ops R R → RealOps R → Complex R → R
modulus_of ops real x = real.root (ops.add (ops.mul x.re x.re) (ops.mul x.im x.im))

abbrev pub unscaled : {R : Type 0} → RealOps R → Complex R → R → Complex R
unscaled real x r = complex_of (real.div x.re r) (real.div x.im r)

-- The modulus m with both parts divided by it, or zero with one where the modulus is zero.
abbrev pub split_at : {R : Type 0} → Ops R R → RealOps R → Complex R → R → R × Complex R
split_at ops real x m = cond (ops.is_zero m) (ops.zero, complex_of ops.one ops.zero) (m, unscaled real x m)

abbrev pub complex_ops : {R : Type 0} → Ops R R → RealOps R → Ops (Complex R) R
complex_ops ops real = record {
  zero = complex_of ops.zero ops.zero;
  is_zero = λ x. ops.is_zero x.re && ops.is_zero x.im;
  one = complex_of ops.one ops.zero;
  add = λ x y. complex_of (ops.add x.re y.re) (ops.add x.im y.im);
  sub = λ x y. complex_of (ops.sub x.re y.re) (ops.sub x.im y.im);
  neg = λ x. complex_of (ops.neg x.re) (ops.neg x.im);
  mul = λ x y. complex_of
      (ops.sub (ops.mul x.re y.re) (ops.mul x.im y.im))
      (ops.add (ops.mul x.re y.im) (ops.mul x.im y.re));
  conj = λ x. complex_of x.re (ops.neg x.im);
  real = λ x. x.re;
  scale = λ x r. complex_of (ops.mul x.re r) (ops.mul x.im r);
  unscale = unscaled real;
  embed = λ r. complex_of r ops.zero;
  size = λ x. ops.add (ops.size x.re) (ops.size x.im);
  modulus = modulus_of ops real;
  split = λ x. split_at ops real x (modulus_of ops real x);
  sign = λ x. (split_at ops real x (modulus_of ops real x)).1;
}
