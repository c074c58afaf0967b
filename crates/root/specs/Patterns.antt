-- What a bit pattern stands for, by its fields, and which floats the cases of `IsRoot` are. Assumes nothing.
use Rattle.std.specs.Prelude.{◌≡◌, ℕ, zero, suc, ◌+◌, ◌-◌, ◌*◌, ◌/◌, ◌%◌, ◌^◌, ◌<◌, ◌≤◌, Bool, true, false, cond, not, T, ◌==◌, ◌≢◌, nat_lt, refl}
use Rattle.std.proofs.Common.{sym, ap, ap₂, ◌∙◌, subst, true≢false, mul-le-mul_right, le-div_iff_mul-le, div-lt_iff_lt-mul, lt_irrefl, zero-mul, mul-pos, mod-eq_of_lt, mod-lt, div-add-mod', arith, ltb→lt, nltb→le, lit<, pow_pos, ne_eqb}
use Rattle.std.proofs.lemmas.Bool.{false≢true, lt-leb}
use Rattle.std.proofs.Math.Nat.{div-eq_of_lt, eq_of_mul-eq-mul_right}
use Rattle.std.proofs.Math.Arith.{digits_div, digits_mod}
use lib.Ieee.{Float, nan, inf, fin, Format, binary32, binary64, prec, emax, low, up, down, odd, hid, ones, top, of_fields, of_bits}
use Rattle.std.specs.Float.Ieee.Exact.{HasValue}
use Rattle.std.specs.Float.Ieee.Fits.{down_pos}
use Rattle.root.specs.Root.{Rooted, IsRoot, significand, scale, quiet}

-- ---- values

-- from one fraction to another of the same size
pub rescale : (x : Float) (s : Bool) (a c b d : ℕ) → 0 < c → b * c ≡ a * d → HasValue x s a c → HasValue x s b d
rescale lib.Ieee.nan s a c b d C h v = v
rescale (lib.Ieee.inf t) s a c b d C h v = v
rescale (fin t m e) s a c b d C h v =
    (v.0, eq_of_mul-eq-mul_right c C _ _ (omega (arith, ap (λ (x : ℕ). x * d) v.1, ap (λ (x : ℕ). x * down e) h)))

-- a number that is not zero has an m above 0
no_zero : (e : ℕ) (a c : ℕ) (d : ℕ) → 0 < a → 0 < d → zero * e * c ≢ a * d
no_zero e a c d A D h = lt_irrefl 0 (subst (λ (x : ℕ). 0 < x) (sym h ∙ ap (λ (y : ℕ). y * c) (zero-mul e) ∙ zero-mul c) (mul-pos A D))

pub of_positive : (f : Format) (v : Float) (a c : ℕ) → 0 < a → HasValue v false a c → (r : Float) → Rooted f v r → IsRoot f v r
of_positive f (fin false zero e) a c A v r h = absurd (no_zero (up e) a c (down e) A (down_pos e) v.1)
of_positive f (fin false (suc m) e) a c A v r h = h
of_positive f (fin true zero e) a c A v r h = absurd (true≢false v.0)
of_positive f (fin true (suc m) e) a c A v r h = absurd (true≢false v.0)
of_positive f lib.Ieee.nan a c A v r h = elim v [ ]
of_positive f (lib.Ieee.inf _) a c A v r h = elim v [ ]

pub of_negative : (f : Format) (v : Float) (a c : ℕ) → 0 < a → HasValue v true a c → (r : Float) → r ≡ nan → IsRoot f v r
of_negative f (fin true zero e) a c A v r h = absurd (no_zero (up e) a c (down e) A (down_pos e) v.1)
of_negative f (fin true (suc m) e) a c A v r h = h
of_negative f (fin false zero e) a c A v r h = absurd (false≢true v.0)
of_negative f (fin false (suc m) e) a c A v r h = absurd (false≢true v.0)
of_negative f lib.Ieee.nan a c A v r h = elim v [ ]
of_negative f (lib.Ieee.inf _) a c A v r h = elim v [ ]

-- ---- fields

pub hid_pos : (f : Format) → 0 < hid f
hid_pos f = pow_pos (prec f - 1)

pub twice_hid : (f : Format) → 2 ^ prec f ≡ 2 * hid f
twice_hid binary32 = refl
twice_hid binary64 = refl

-- a format reaches further than it has digits
pub wide : (f : Format) → prec f < emax f
wide binary32 = lit< tt
wide binary64 = lit< tt

pub at_fields : (f : Format) (x t : ℕ) → x ≤ ones f → t < hid f → of_bits f (x * hid f + t) ≡ of_fields f false x t
unfolding of_bits
at_fields f x t X H =
    let b = x * hid f + t in
    let small : b < top f = omega (arith, mul-le-mul_right (hid f) X) in
    ap (λ (s : Bool). of_fields f s (b % top f / hid f) (b % hid f)) (lt-leb (top f) b small)
    ∙ ap (λ (y : ℕ). of_fields f false (y / hid f) (b % hid f)) (mod-eq_of_lt small)
    ∙ ap (λ (y : ℕ). of_fields f false y (b % hid f)) (digits_div x H)
    ∙ ap (of_fields f false x) (digits_mod x H)

pub at_ones : (f : Format) (s : Bool) (t : ℕ) → of_fields f s (ones f) t ≡ cond (t == 0) (inf s) nan
unfolding of_fields
at_ones binary32 s t = refl
at_ones binary64 s t = refl

pub at_normal : (f : Format) (x t : ℕ) → suc x < ones f → t < hid f
    → of_bits f (x * hid f + (hid f + t)) ≡ odd (prec f) false (hid f + t) x (low f)
unfolding of_fields
at_normal f x t X H =
    ap (of_bits f) (omega arith)
    ∙ at_fields f (suc x) t (omega arith) H
    ∙ ap (λ (b : Bool). cond b (cond (t == 0) (inf false) nan) (odd (prec f) false (hid f + t) x (low f)))
    (ne_eqb (suc x) (ones f) (omega arith))

pub at_small : (f : Format) (t : ℕ) → t < hid f → of_bits f t ≡ odd (prec f) false t 0 (low f)
unfolding of_fields
at_small f t H = ap (of_bits f) (omega arith) ∙ at_fields f 0 t (omega arith) H

pub quiet_is : (f : Format) → of_bits f (quiet f) ≡ nan
unfolding of_bits of_fields
quiet_is binary32 = refl
quiet_is binary64 = refl

-- ---- a number above zero, by its significand and scale

-- what is known of them
pub record Parts (f : Format) (b m i : ℕ) : Type 0 where
  pub some : 0 < m
  pub few : m < 2 ^ prec f
  pub in_range : i + 2 ≤ ones f
  pub is : of_bits f b ≡ odd (prec f) false m i (low f)

pub parts : (f : Format) (b : ℕ) → 0 < b → b < ones f * hid f → Parts f b (significand f b) (scale f b)
parts f b B L = go (nat_lt b (hid f)) (ltb→lt b (hid f)) (nltb→le b (hid f))
  where
    go : (k : Bool) → (T k → b < hid f) → (T (not k) → hid f ≤ b) → Parts f b (b % hid f + cond k 0 (hid f)) (scale f b)
    go true y z =
        let e : b % hid f ≡ b = mod-eq_of_lt (y tt) in
        let d : b / hid f ≡ 0 = div-eq_of_lt (y tt) in
        record {
          some = omega arith;
          few = omega (arith, twice_hid f, y tt);
          in_range = omega (arith, wide f);
          is = at_small f b (y tt) ∙ ap₂ (λ (m i : ℕ). odd (prec f) false m i (low f)) (omega arith) (omega arith);
        }
    go false y z =
        let j = b / hid f - 1 in
        let x : 1 ≤ b / hid f = (le-div_iff_mul-le (hid_pos f)).1 (omega (arith, z tt)) in
        let l : b / hid f < ones f = (div-lt_iff_lt-mul (hid_pos f)).1 L in
        let t : b % hid f < hid f = mod-lt b (hid_pos f) in
        let n : b / hid f ≡ j + 1 = omega arith in
        let e : b ≡ j * hid f + (hid f + b % hid f) = omega (arith, div-add-mod' b (hid f), ap (λ (k : ℕ). k * hid f) n) in
        record {
          some = omega (arith, hid_pos f);
          few = omega (arith, twice_hid f);
          in_range = omega arith;
          is = ap (of_bits f) e ∙ at_normal f j (b % hid f) (omega arith) t ∙ ap (λ (m : ℕ). odd (prec f) false m j (low f)) (omega arith);
        }
