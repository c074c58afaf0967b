-- The meaning of a number kind: one fixed result for each operation on given operands. Definitions only.
use Rattle.std.specs.Prelude.{◌≡◌, Bool, T}

-- The operations of a kind C whose sizes and values belong to the real kind R.
pub record Ops (C R : Type 0) : Type 0 where
  pub zero : C
  pub is_zero : C → Bool
  pub one : C
  pub add : C → C → C
  pub sub : C → C → C
  pub neg : C → C
  pub mul : C → C → C
  pub conj : C → C
  -- the real part, products and quotients with a real number, and a real number as one of C
  pub real : C → R
  pub scale : C → R → C
  pub unscale : C → R → C
  pub embed : R → C
  -- The size is what tables are scaled by, |a| + |b| of a complex number; the modulus its absolute value.
  pub size : C → R
  pub modulus : C → R
  -- The sign split is the modulus and a number of modulus one, of which x is the product in exact arithmetic. At a
  -- real zero of either sign that number is 1, where the sign is the zero's own: the two differ at -0.
  pub split : C → R × C
  pub sign : C → C

-- What a real kind has besides. `is_size` tells what a size that is finite can be: the larger of two is
-- lawful there, and not at every number (of -0 and +0 the larger would be the first).
pub record RealOps (R : Type 0) : Type 0 where
  pub div : R → R → R
  pub lt : R → R → Bool
  pub le : R → R → Bool
  pub root : R → R
  pub larger : R → R → R
  pub is_finite : R → Bool
  pub is_size : R → Bool
  pub two : R
  pub half : R
  pub minus_two : R

-- The larger of two finite sizes is a finite size, and which one it is depends on neither order nor grouping.
pub record LargerLaws {R : Type 0} (real : RealOps R) : Type 0 where
  pub finite : (x : R) → T (real.is_size x) → T (real.is_finite x)
  pub closed : (x y : R) → T (real.is_size x) → T (real.is_size y) → T (real.is_size (real.larger x y))
  pub comm : (x y : R) → T (real.is_size x) → T (real.is_size y) → real.larger x y ≡ real.larger y x
  pub assoc : (x y z : R) → T (real.is_size x) → T (real.is_size y) → T (real.is_size z) →
      real.larger (real.larger x y) z ≡ real.larger x (real.larger y z)
  pub idem : (x : R) → T (real.is_size x) → real.larger x x ≡ x

-- What the operations of a real kind owe each other.
pub record RealLaws {R : Type 0} (ops : Ops R R) (real : RealOps R) : Type 0 where
  -- a real number is its own conjugate
  pub own_conjugate : (x : R) → ops.conj x ≡ x
  -- opposite numbers have one size
  pub opposite : (x : R) → ops.size (ops.neg x) ≡ ops.size x
  -- the size of zero is a size, and twice it is itself
  pub zero_size : T (real.is_size (ops.size ops.zero))
  pub zero_sum : ops.add (ops.size ops.zero) (ops.size ops.zero) ≡ ops.size ops.zero
  pub zero_neutral : (x : R) → T (real.is_size x) → real.larger x (ops.size ops.zero) ≡ x
  -- a sum of two sizes, if it is finite, is a size
  pub sum_size : (x y : R) → T (real.is_size x) → T (real.is_size y) → T (real.is_finite (ops.add x y)) →
      T (real.is_size (ops.add x y))
  pub summands : (x y : R) → T (real.is_finite (ops.add x y)) → T (real.is_finite x) × T (real.is_finite y)

-- What the sizes of a kind owe the real kind that they belong to.
pub record SizeLaws {C R : Type 0} (ops : Ops C R) (real : RealOps R) : Type 0 where
  -- a number and its conjugate have one size
  pub conjugate : (x : C) → ops.size (ops.conj x) ≡ ops.size x
  -- the size of zero is a size, and neutral among them
  pub zero_size : T (real.is_size (ops.size ops.zero))
  pub zero_neutral : (x : R) → T (real.is_size x) → real.larger x (ops.size ops.zero) ≡ x
