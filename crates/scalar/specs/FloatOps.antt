-- The meaning of binary64 and binary32: IEEE 754 arithmetic, each operation rounded once, to nearest, ties to even.
-- Definitions only.
use Rattle.std.specs.Prelude.{false, cond, from_bits, Float}
use Rattle.std.specs.Float.Ieee.{neg, add, sub, mul, div, lt, le, eq}
use Rattle.std.specs.Float.{float_with_sign, float_signum, float_max, float_is_finite, Format, binary32, binary64}
use Rattle.scalar.specs.Ops.{Ops, RealOps}
use Rattle.scalar.specs.FloatLaws.{is_size}
use Rattle.root.specs.Root.{root_of}

-- the constants, by their bits
abbrev pub zero_of : Format → Float
zero_of f = from_bits f 0

abbrev pub one_of : Format → Float
one_of binary32 = from_bits binary32 0x3F80_0000
one_of binary64 = from_bits binary64 0x3FF0_0000_0000_0000

abbrev pub two_of : Format → Float
two_of binary32 = from_bits binary32 0x4000_0000
two_of binary64 = from_bits binary64 0x4000_0000_0000_0000

abbrev pub half_of : Format → Float
half_of binary32 = from_bits binary32 0x3F00_0000
half_of binary64 = from_bits binary64 0x3FE0_0000_0000_0000

abbrev pub minus_two_of : Format → Float
minus_two_of binary32 = from_bits binary32 0xC000_0000
minus_two_of binary64 = from_bits binary64 0xC000_0000_0000_0000

-- (x, 1) from zero up, either zero included, and else (-x, -1)
abbrev pub split_of : Format → Float → Float × Float
split_of f x = cond (le (zero_of f) x) (x, one_of f) (neg x, neg (one_of f))

abbrev pub float_ops : Format → Ops Float Float
float_ops f = record {
  zero = zero_of f;
  is_zero = λ x. eq x (zero_of f);
  one = one_of f;
  add = add f;
  sub = sub f;
  neg = neg;
  mul = mul f;
  conj = λ x. x;
  real = λ x. x;
  scale = mul f;
  unscale = div f;
  embed = λ x. x;
  size = float_with_sign false;
  modulus = float_with_sign false;
  split = split_of f;
  sign = float_signum;
}

-- `float_max` is the larger of two, and the other one where one is a NaN
abbrev pub float_real : Format → RealOps Float
float_real f = record {
  div = div f;
  lt = lt;
  le = le;
  root = root_of f;
  larger = float_max;
  is_finite = float_is_finite;
  is_size = is_size f;
  two = two_of f;
  half = half_of f;
  minus_two = minus_two_of f;
}
