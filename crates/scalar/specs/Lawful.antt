-- The laws, shown for both widths of floats and for complex numbers over any lawful real kind. Assumes nothing.
use Rattle.std.specs.Prelude.{◌≡◌, true, false, not, ◌&&◌, T, refl, Float}
use Rattle.std.proofs.Common.{sym, ap, ◌∙◌, subst}
use Rattle.std.specs.Float.Ieee.{neg, add, fits, of_bits, of_fields, odd}
use lib.Count.{count_trailing_zeros}
use Rattle.std.specs.Float.Ieee.Fits.{and_l, and_r}
use Rattle.std.specs.Float.{float_is_finite, is_sign_negative, float_with_sign, Format, binary32, binary64, nan, inf, fin}
use Rattle.scalar.specs.Ops.{Ops, RealOps, LargerLaws, RealLaws, SizeLaws}
use Rattle.scalar.specs.FloatLaws.{is_size, sized, unsigned, most_size, most_comm, most_assoc, most_idem, most_zero}
use Rattle.scalar.specs.FloatLaws.{zero_bits, zero_size, abs_neg, add_size, add_zero_zero}
use Rattle.scalar.specs.FloatOps.{zero_of, two_of, minus_two_of, float_ops, float_real}
use Rattle.scalar.specs.ComplexOps.{complex_ops}

size_finite : (f : Format) (x : Float) → T (is_size f x) → T (float_is_finite x)
size_finite f x t = and_l (float_is_finite x) (not (is_sign_negative x)) (and_r _ (float_is_finite x && not (is_sign_negative x)) t)

pub float_larger : (f : Format) → LargerLaws (float_real f)
float_larger f = record { finite = size_finite f; closed = most_size f; comm = most_comm f; assoc = most_assoc f; idem = most_idem f }

-- an absolute value that is finite is a size
pub float_sized : (f : Format) (x r : Float) → fits f r ≡ true → r ≡ float_with_sign false x → T (float_is_finite r) → T (is_size f r)
float_sized f x r ok e t =
    sized f r (subst T (sym ok) tt) t (subst (λ (y : Float). T (not (is_sign_negative y))) (sym e) (unsigned x))

-- a finite sum has finite summands
summands_of : (f : Format) (x y : Float) → T (float_is_finite (add f x y)) → T (float_is_finite x) × T (float_is_finite y)
unfolding add float_is_finite
summands_of f nan y t = absurd t
summands_of f (inf s) nan t = absurd t
summands_of f (inf true) (inf true) t = absurd t
summands_of f (inf true) (inf false) t = absurd t
summands_of f (inf false) (inf true) t = absurd t
summands_of f (inf false) (inf false) t = absurd t
summands_of f (inf s) (fin u n d) t = absurd t
summands_of f (fin s m e) nan t = absurd t
summands_of f (fin s m e) (inf u) t = absurd t
summands_of f (fin s m e) (fin u n d) t = (tt, tt)

zero_is_size : (f : Format) → T (is_size f (float_with_sign false (zero_of f)))
zero_is_size f = subst (λ (x : Float). T (is_size f x)) (sym (zero_bits f)) (zero_size f)

pub float_laws : (f : Format) → RealLaws (float_ops f) (float_real f)
float_laws f = record {
  own_conjugate = λ x. refl;
  opposite = abs_neg;
  zero_size = zero_is_size f;
  zero_sum = ap (λ (x : Float). add f x x) (zero_bits f) ∙ add_zero_zero f ∙ sym (zero_bits f);
  zero_neutral = most_zero f;
  sum_size = add_size f;
  summands = summands_of f;
}

pub opposite_two : (f : Format) → neg (two_of f) ≡ minus_two_of f
unfolding neg of_bits of_fields odd count_trailing_zeros
opposite_two binary32 = refl
opposite_two binary64 = refl

pub float_sizes : (f : Format) → SizeLaws (float_ops f) (float_real f)
float_sizes f = record { conjugate = λ x. refl; zero_size = zero_is_size f; zero_neutral = most_zero f }

module _ {R : Type 0} {ops : Ops R R} {real : RealOps R} (laws : RealLaws ops real) where
  pub complex_sizes : SizeLaws (complex_ops ops real) real
  complex_sizes = record {
    conjugate = λ x. ap (ops.add (ops.size x.re)) (laws.opposite x.im);
    zero_size = subst (λ r. T (real.is_size r)) (sym laws.zero_sum) laws.zero_size;
    zero_neutral = λ x h. ap (real.larger x) laws.zero_sum ∙ laws.zero_neutral x h;
  }

  -- a complex number whose size is finite has a size
  pub complex_sized : (a b : R) → (T (real.is_finite a) → T (real.is_size a)) → (T (real.is_finite b) → T (real.is_size b)) →
      T (real.is_finite (ops.add a b)) → T (real.is_size (ops.add a b))
  complex_sized a b p q t = laws.sum_size a b (p (laws.summands a b t).0) (q (laws.summands a b t).1) t
