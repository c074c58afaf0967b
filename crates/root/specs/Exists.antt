-- What `root_of` gives is the root: `root_exists`. Assumes nothing.
use Rattle.std.specs.Prelude.{◌≡◌, ℕ, zero, suc, ◌+◌, ◌-◌, ◌*◌, ◌/◌, ◌%◌, ◌^◌, ◌<◌, ◌≤◌, Bool, true, false, cond, T, ◌≢◌, ◌==◌, nat_le, nat_lt, to_bits, refl, Float}
use Rattle.std.proofs.Common.{sym, ap, ap₂, ◌∙◌, subst, mul-le-mul_right, pos_of_ne-zero, zero-lt-suc, mul_assoc, mul-pos, mod-lt, div-add-mod', arith, pow-add, pow_pos, le-leb, ne_eqb, leb-true, leb-false, ltb-true, ltb-false, eqb-true}
use Rattle.std.proofs.Math.Nat.{mod-mod_of_dvd, zero-div, zero-mod, dvd-mul_right}
use Rattle.std.proofs.lemmas.Bool.{eqb-false}
use Rattle.std.specs.Float.{nan, inf, fin, Format, binary32, binary64}
use Rattle.std.specs.Float.Ieee.{prec, emax, low, odd, fits, hid, ones, top, of_fields, of_bits}
use Rattle.std.specs.Float.Ieee.Bits.{of_bits-to_bits, of_bits-fits}
use Rattle.std.specs.Float.Ieee.Digits.{size-le}
use Rattle.std.specs.Float.Ieee.Exact.{HasValue, odd_sign}
use Rattle.std.specs.Float.Ieee.Fits.{two}
use Rattle.root.specs.Root.{Rooted, IsRoot, whole_root, significand, scale, place, radicand_of, nearest_root, root_at, quiet, root_bits, root_of}
use Rattle.root.specs.Whole.{whole_root_floor}
use Rattle.root.specs.Nearest.{Near, halved, Ranged, ranged, radicand_scale}
use Rattle.root.specs.Patterns.{rescale, of_positive, of_negative, hid_pos, twice_hid, wide, at_fields, at_ones, at_normal, quiet_is}
use Rattle.root.specs.Patterns.{Parts, parts}

-- ---- a number above zero

square : (f : Format) → hid f * hid f ≡ 2 ^ (2 * prec f - 2)
square binary32 = refl
square binary64 = refl

squares : (f : Format) → 4 * (hid f * hid f) ≡ 2 ^ (2 * prec f)
squares binary32 = refl
squares binary64 = refl

four_squares : (f : Format) → 4 * (4 * (hid f * hid f)) ≡ 4 ^ suc (prec f)
four_squares binary32 = refl
four_squares binary64 = refl

-- the significand m, of at most prec f digits, at the scale i
module _ (f : Format) (m i : ℕ) (some : 0 < m) (few : m < 2 ^ prec f) where
  abbrev n : ℕ
  n = radicand_of f m i

  abbrev q : ℕ
  q = nearest_root (prec f) n

  abbrev k : ℕ
  k = place f m i

  in_range : Ranged (hid f) n
  in_range = ranged (prec f) m (k % 2) (omega (arith, two f)) some few (mod-lt k (zero-lt-suc 1))

  below : n < 4 * (hid f * hid f)
  below = omega (arith, in_range.room, hid_pos f)

  near : Near (hid f) n q
  near =
      halved (hid f) n (whole_root (suc (prec f)) (4 * n)) (hid_pos f) in_range.from in_range.room
      (whole_root_floor (suc (prec f)) (4 * n) (subst (λ (x : ℕ). 4 * n < x) (four_squares f) (omega (arith, below))))

  module _ (fine : i + 2 ≤ ones f) where
    field : suc (k / 2) < ones f
    field = omega (arith, size-le m (prec f) few, wide f)

    pub root_at_lt : root_at f m i < ones f * hid f
    root_at_lt = omega (arith, near.below, mul-le-mul_right (hid f) field)

    reads : HasValue (of_bits f (root_at f m i)) false (q * 2 ^ (k / 2)) (2 ^ low f)
    reads =
        let t = q - hid f in
        let e : hid f + t ≡ q = omega (arith, near.from) in
        let T : t < hid f = omega (arith, near.below, near.from) in
        let is : of_bits f (k / 2 * hid f + q) ≡ odd (prec f) false q (k / 2) (low f) =
        subst (λ (x : ℕ). of_bits f (k / 2 * hid f + x) ≡ odd (prec f) false x (k / 2) (low f)) e (at_normal f (k / 2) t field T) in
        subst (λ (x : Float). HasValue x false (q * 2 ^ (k / 2)) (2 ^ low f)) (sym is) (odd_sign (prec f) false q (k / 2) (low f))

    scaled : n * 2 ^ (2 * (k / 2)) * 2 ^ low f ≡ m * 2 ^ i * 2 ^ (2 * low f)
    scaled =
        ap (λ (x : ℕ). x * 2 ^ low f) (radicand_scale (prec f) (emax f) m i some few (wide f))
        ∙ mul_assoc (m * 2 ^ i) (2 ^ low f) (2 ^ low f)
        ∙ ap (λ (x : ℕ). m * 2 ^ i * x) (sym (pow-add 2 (low f) (low f)) ∙ ap (λ (x : ℕ). 2 ^ x) (omega arith))

    rooted : (v : Float) → HasValue v false (m * 2 ^ i) (2 ^ low f) → Rooted f v (of_bits f (root_at f m i))
    rooted v value = record {
      radicand = n;
      digits = q;
      up = k / 2;
      down = low f;
      radicand_from = subst (λ (x : ℕ). x ≤ n) (square f) in_range.from;
      radicand_below = subst (λ (x : ℕ). n < x) (squares f) below;
      digits_from = near.from;
      digits_below = subst (λ (x : ℕ). q < x) (sym (twice_hid f)) near.below;
      of = rescale v false (m * 2 ^ i) (2 ^ low f) (n * 2 ^ (2 * (k / 2))) (2 ^ (2 * low f)) (pow_pos (low f)) scaled value;
      is = reads;
      not_less = near.not_less;
      not_more = near.not_more;
    }

above_zero : (f : Format) (b m i : ℕ) → Parts f b m i → IsRoot f (of_bits f b) (of_bits f (root_at f m i))
above_zero f b m i h =
    let value : HasValue (of_bits f b) false (m * 2 ^ i) (2 ^ low f) =
    subst (λ (x : Float). HasValue x false (m * 2 ^ i) (2 ^ low f)) (sym h.is) (odd_sign (prec f) false m i (low f)) in
    of_positive f (of_bits f b) (m * 2 ^ i) (2 ^ low f) (mul-pos h.some (pow_pos i)) value (of_bits f (root_at f m i))
    (rooted f m i h.some h.few h.in_range (of_bits f b) value)

-- ---- every other pattern

itself : (f : Format) (b : ℕ) (v : Float) → of_bits f b ≡ v → IsRoot f v v → IsRoot f (of_bits f b) (of_bits f b)
itself f b v e h = subst (λ (x : Float). IsRoot f x x) (sym e) h

digits_of : (f : Format) (b : ℕ) → b % hid f ≡ b % top f % hid f
digits_of f b = sym (mod-mod_of_dvd (hid f) b (dvd-mul_right (hid f) (suc (ones f))))

of_zero : (f : Format) (b : ℕ) → b % top f ≡ 0 → IsRoot f (of_bits f b) (of_bits f b)
unfolding of_bits of_fields odd
of_zero f b h =
    itself f b (fin (nat_le (top f) b) 0 (lib.IntN.pos 0))
    (ap (λ (x : ℕ). of_fields f (nat_le (top f) b) (x / hid f) (b % hid f)) h
    ∙ ap (λ (x : ℕ). of_fields f (nat_le (top f) b) x (b % hid f)) (zero-div (hid f))
    ∙ ap (of_fields f (nat_le (top f) b) 0) (digits_of f b ∙ ap (λ (x : ℕ). x % hid f) h ∙ zero-mod (hid f)))
    refl

of_infinity : (f : Format) → IsRoot f (of_bits f (ones f * hid f)) (of_bits f (ones f * hid f))
of_infinity f =
    itself f (ones f * hid f) (inf false)
    (ap (of_bits f) (omega arith) ∙ at_fields f (ones f) 0 (omega arith) (hid_pos f) ∙ at_ones f false 0)
    refl

-- a field of ones with digits behind it
of_nan : (f : Format) (b : ℕ) → ones f * hid f < b → b < top f → IsRoot f (of_bits f b) (of_bits f (quiet f))
of_nan f b h l =
    let t = b - ones f * hid f in
    let e : of_bits f b ≡ nan =
    ap (of_bits f) (omega arith)
    ∙ at_fields f (ones f) t (omega arith) (omega arith)
    ∙ at_ones f false t
    ∙ ap (λ (k : Bool). cond k (inf false) nan) (ne_eqb t 0 (omega arith)) in
    subst (λ (x : Float). IsRoot f x (of_bits f (quiet f))) (sym e) (quiet_is f)

-- the sign is set, and the number is not zero
below_zero : (f : Format) (x t : ℕ) → (x ≡ 0 → t ≢ 0) → (r : Float) → r ≡ nan → IsRoot f (of_fields f true x t) r
unfolding of_fields
below_zero f zero t h r e =
    of_negative f (odd (prec f) true t 0 (low f)) (t * 1) (2 ^ low f) (let t_not : t ≢ 0 = h refl in omega arith)
    (odd_sign (prec f) true t 0 (low f)) r e
below_zero f (suc x) t h r e = go (suc x == ones f) (t == 0)
  where
    go : (j k : Bool) → IsRoot f (cond j (cond k (inf true) nan) (odd (prec f) true (hid f + t) x (low f))) r
    go true true = e
    go true false = e
    go false k =
        of_negative f (odd (prec f) true (hid f + t) x (low f)) ((hid f + t) * 2 ^ x) (2 ^ low f)
        (mul-pos (omega (arith, hid_pos f)) (pow_pos x))
        (odd_sign (prec f) true (hid f + t) x (low f)) r e

of_minus : (f : Format) (b : ℕ) → b % top f ≢ 0 → top f ≤ b → IsRoot f (of_bits f b) (of_bits f (quiet f))
unfolding of_bits
of_minus f b h l =
    let x = b % top f / hid f in
    let t = b % hid f in
    let some : x ≡ 0 → t ≢ 0 = λ y z.
    h (sym (div-add-mod' (b % top f) (hid f)) ∙ ap₂ (λ (u w : ℕ). u * hid f + w) y (sym (digits_of f b) ∙ z) ∙ omega arith) in
    subst (λ (s : Bool). IsRoot f (of_fields f s x t) (of_bits f (quiet f))) (sym (le-leb (top f) b l))
    (below_zero f x t some (of_bits f (quiet f)) (quiet_is f))

-- ---- all of them

root_bits_is_root : (f : Format) (b : ℕ) → IsRoot f (of_bits f b) (of_bits f (root_bits f b))
root_bits_is_root f b =
    go (b % top f == 0) (nat_lt b (ones f * hid f)) (b == ones f * hid f)
    (eqb-true (b % top f) 0) (eqb-false (b % top f) 0) (ltb-true b (ones f * hid f)) (ltb-false b (ones f * hid f))
    (eqb-true b (ones f * hid f)) (eqb-false b (ones f * hid f))
  where
    infinity : ℕ
    infinity = ones f * hid f

    rest : b % top f ≢ 0 → infinity ≤ b → b ≢ infinity → IsRoot f (of_bits f b) (of_bits f (quiet f))
    rest z l n = signed (nat_le (top f) b) (leb-true (top f) b) (leb-false (top f) b)
      where
        signed : (s : Bool) → (s ≡ true → top f ≤ b) → (s ≡ false → b < top f) → IsRoot f (of_bits f b) (of_bits f (quiet f))
        signed true y w = of_minus f b z (y refl)
        signed false y w = of_nan f b (omega arith) (w refl)

    go : (i j k : Bool) → (i ≡ true → b % top f ≡ 0) → (i ≡ false → b % top f ≢ 0) → (j ≡ true → b < infinity) → (j ≡ false → infinity ≤ b)
        → (k ≡ true → b ≡ infinity) → (k ≡ false → b ≢ infinity)
        → IsRoot f (of_bits f b) (of_bits f (cond i b (cond j (root_at f (significand f b) (scale f b)) (cond k b (quiet f)))))
    go true j k a a' c c' e e' = of_zero f b (a refl)
    go false true k a a' c c' e e' =
        let some : 0 < b = pos_of_ne-zero (λ z. a' refl (ap (λ (x : ℕ). x % top f) z ∙ zero-mod (top f))) in
        above_zero f b (significand f b) (scale f b) (parts f b some (c refl))
    go false false true a a' c c' e e' = subst (λ (x : ℕ). IsRoot f (of_bits f x) (of_bits f x)) (sym (e refl)) (of_infinity f)
    go false false false a a' c c' e e' = rest (a' refl) (c' refl) (e' refl)

pub root_fits : (f : Format) (v : Float) → T (fits f (root_of f v))
unfolding root_of
root_fits f v = of_bits-fits f (root_bits f (to_bits f v))

pub root_exists : (f : Format) (v : Float) → T (fits f v) → IsRoot f v (root_of f v)
unfolding root_of
root_exists f v h =
    subst (λ (x : Float). IsRoot f x (of_bits f (root_bits f (to_bits f v)))) (of_bits-to_bits f v h) (root_bits_is_root f (to_bits f v))
