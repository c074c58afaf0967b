-- Among the values that a format holds, one at most is the root of v. Assumes nothing.
use Rattle.std.specs.Prelude.{◌≡◌, ℕ, zero, suc, ◌+◌, ◌-◌, ◌*◌, ◌/◌, ◌^◌, ◌<◌, ◌≤◌, Bool, true, false, cond, T, ℤ, from_bits}
use Rattle.std.proofs.Common.{sym, ap, ◌∙◌, subst, true≢false, le_antisymm, le_of_suc-le-suc, lt_of_not-le, lt_of_lt_of_le, lt_trans, mul-add, mul_assoc, mul_right_comm, mul-le-mul, mul-lt-mul_of_pos_right, arith, pow-add, pow_pos, pow_mono}
use Rattle.std.proofs.Math.Nat.{eq_of_mul-eq-mul_right}
use lib.Ieee.{Float, nan, inf, fin, Format, prec, low, up, down, size, fits, hid, top, to_bits}
use Rattle.std.specs.Float.Ieee.Bits.{of_bits-to_bits}
use Rattle.std.specs.Float.Ieee.Exact.{HasValue}
use Rattle.std.specs.Float.Ieee.Fits.{two, down_pos}
use Rattle.std.specs.Float.Ieee.Nearest.{div_same}
use Rattle.root.specs.Root.{Rooted, IsRoot}
use Rattle.root.specs.Whole.{lt_of_squares}

-- ---- a value is written in one way

-- the bits of a finite number turn on its sign and on its size in units of the format's smallest value
written : Format → Bool → ℕ → ℕ
written f s n = cond s (top f) 0 + (size n - prec f) * hid f + n / 2 ^ (size n - prec f)

bits_of : (f : Format) (x : Float) (a c : ℕ) → 0 < c → HasValue x false a c → to_bits f x ≡ written f false (a * 2 ^ low f / c)
unfolding to_bits written
bits_of f (fin false m e) a c C v =
    ap (written f false) (div_same (m * up e * 2 ^ low f) (down e) (a * 2 ^ low f) c (down_pos e) C
    (mul_right_comm (m * up e) (2 ^ low f) c ∙ ap (λ (x : ℕ). x * 2 ^ low f) v.1 ∙ mul_right_comm a (down e) (2 ^ low f)))
bits_of f (fin true m e) a c C v = absurd (true≢false v.0)
bits_of f lib.Ieee.nan a c C v = elim v [ ]
bits_of f (lib.Ieee.inf _) a c C v = elim v [ ]

value_only : (f : Format) (x y : Float) (a c b d : ℕ) → T (fits f x) → T (fits f y) → 0 < c → 0 < d
    → HasValue x false a c → HasValue y false b d → a * d ≡ b * c → x ≡ y
value_only f x y a c b d p q C D v w e =
    let same : a * 2 ^ low f / c ≡ b * 2 ^ low f / d =
    div_same (a * 2 ^ low f) c (b * 2 ^ low f) d C D
    (mul_right_comm a (2 ^ low f) d ∙ ap (λ (x : ℕ). x * 2 ^ low f) e ∙ mul_right_comm b c (2 ^ low f)) in
    sym (of_bits-to_bits f x p)
    ∙ ap (from_bits f) (bits_of f x a c C v ∙ ap (written f false) same ∙ sym (bits_of f y b d D w))
    ∙ of_bits-to_bits f y q

-- ---- a number above zero has one radicand, and that one root

quadruple : (j : ℕ) → 2 ^ (2 * suc j) ≡ 4 * 2 ^ (2 * j)
quadruple j = ap (λ (x : ℕ). 2 ^ x) (omega arith) ∙ pow-add 2 2 (2 * j)

not_beyond : (m n p a b : ℕ) → p ≤ n → m < 4 * p → m * 2 ^ (2 * a) ≡ n * 2 ^ (2 * b) → b ≤ a
not_beyond m n p a b P M e = le_of_suc-le-suc (lt_of_not-le far)
  where
    far : suc a ≤ b → ⊥
    far h =
        let g : 4 * 2 ^ (2 * a) ≤ 2 ^ (2 * b) = subst (λ (x : ℕ). x ≤ 2 ^ (2 * b)) (quadruple a) (pow_mono (omega arith)) in
        let l : p * (4 * 2 ^ (2 * a)) ≤ n * 2 ^ (2 * b) = mul-le-mul P g in
        let k : m * 2 ^ (2 * a) < 4 * p * 2 ^ (2 * a) = mul-lt-mul_of_pos_right M (pow_pos (2 * a)) in
        omega arith

radicand_only : (m n p a b : ℕ) → p ≤ m → p ≤ n → m < 4 * p → n < 4 * p → m * 2 ^ (2 * a) ≡ n * 2 ^ (2 * b) → (a ≡ b) × (m ≡ n)
radicand_only m n p a b P Q M N e =
    let s : a ≡ b = le_antisymm (not_beyond n m p b a P N (sym e)) (not_beyond m n p a b Q M e) in
    (s, eq_of_mul-eq-mul_right (2 ^ (2 * a)) (pow_pos (2 * a)) m n (e ∙ ap (λ (x : ℕ). n * 2 ^ (2 * x)) (sym s)))

nearest_only : (m n q r : ℕ) → m ≡ n → 0 < q → 0 < r → (2 * q - 1) * (2 * q - 1) < 4 * m → 4 * m < (2 * q + 1) * (2 * q + 1)
    → (2 * r - 1) * (2 * r - 1) < 4 * n → 4 * n < (2 * r + 1) * (2 * r + 1) → q ≡ r
nearest_only m n q r e Q R a b c d =
    let x : 2 * q - 1 < 2 * r + 1 =
    lt_of_squares (2 * q - 1) (2 * r + 1) (lt_trans a (subst (λ (k : ℕ). 4 * k < (2 * r + 1) * (2 * r + 1)) (sym e) d)) in
    let y : 2 * r - 1 < 2 * q + 1 =
    lt_of_squares (2 * r - 1) (2 * q + 1) (lt_trans c (subst (λ (k : ℕ). 4 * k < (2 * q + 1) * (2 * q + 1)) e b)) in
    omega arith

-- two fractions of one number: x / 2^(2c) and x / 2^(2d)
crossed : (x w m n a b c d : ℕ) → 0 < w → x * 2 ^ (2 * c) ≡ m * 2 ^ (2 * a) * w → x * 2 ^ (2 * d) ≡ n * 2 ^ (2 * b) * w
    → m * 2 ^ (2 * (a + d)) ≡ n * 2 ^ (2 * (b + c))
crossed x w m n a b c d W e g =
    let l : 2 ^ (2 * (a + d)) ≡ 2 ^ (2 * a) * 2 ^ (2 * d) = ap (λ (k : ℕ). 2 ^ k) (mul-add 2 a d) ∙ pow-add 2 (2 * a) (2 * d) in
    let r : 2 ^ (2 * (b + c)) ≡ 2 ^ (2 * b) * 2 ^ (2 * c) = ap (λ (k : ℕ). 2 ^ k) (mul-add 2 b c) ∙ pow-add 2 (2 * b) (2 * c) in
    let h : m * (2 ^ (2 * a) * 2 ^ (2 * d)) * w ≡ n * (2 ^ (2 * b) * 2 ^ (2 * c)) * w =
    omega (arith, ap (λ (k : ℕ). k * 2 ^ (2 * d)) e, ap (λ (k : ℕ). k * 2 ^ (2 * c)) g) in
    ap (λ (k : ℕ). m * k) l ∙ eq_of_mul-eq-mul_right w W _ _ h ∙ ap (λ (k : ℕ). n * k) (sym r)

two_less : (p : ℕ) → 2 ≤ p → 2 ^ (2 * p) ≡ 4 * 2 ^ (2 * p - 2)
two_less p h = ap (λ (x : ℕ). 2 ^ x) (omega arith) ∙ pow-add 2 2 (2 * p - 2)

rooted_only : (f : Format) (m : ℕ) (e : ℤ) (r s : Float) → T (fits f r) → T (fits f s)
    → Rooted f (fin false m e) r → Rooted f (fin false m e) s → r ≡ s
rooted_only f m e r s p q a b =
    let P = 2 ^ (2 * prec f - 2) in
    let four : 2 ^ (2 * prec f) ≡ 4 * P = two_less (prec f) (two f) in
    let k = radicand_only a.radicand b.radicand P (a.up + b.down) (b.up + a.down) a.radicand_from b.radicand_from
    (subst (λ (x : ℕ). a.radicand < x) four a.radicand_below) (subst (λ (x : ℕ). b.radicand < x) four b.radicand_below)
    (crossed (m * up e) (down e) a.radicand b.radicand a.up b.up a.down b.down (down_pos e) a.of.1 b.of.1) in
    let some = pow_pos (prec f - 1) in
    let same : a.digits ≡ b.digits =
    nearest_only a.radicand b.radicand a.digits b.digits k.1
    (lt_of_lt_of_le some a.digits_from) (lt_of_lt_of_le some b.digits_from)
    a.not_less a.not_more b.not_less b.not_more in
    value_only f r s (a.digits * 2 ^ a.up) (2 ^ a.down) (b.digits * 2 ^ b.up) (2 ^ b.down) p q
    (pow_pos a.down) (pow_pos b.down) a.is b.is
    (mul_assoc a.digits (2 ^ a.up) (2 ^ b.down)
    ∙ ap (λ (x : ℕ). a.digits * x) (sym (pow-add 2 a.up b.down) ∙ ap (λ (x : ℕ). 2 ^ x) k.0 ∙ pow-add 2 b.up a.down)
    ∙ ap (λ (x : ℕ). x * (2 ^ b.up * 2 ^ a.down)) same
    ∙ sym (mul_assoc b.digits (2 ^ b.up) (2 ^ a.down)))

pub root_only : (f : Format) (v r s : Float) → T (fits f r) → T (fits f s) → IsRoot f v r → IsRoot f v s → r ≡ s
root_only f nan r s p q a b = a ∙ sym b
root_only f (inf false) r s p q a b = a ∙ sym b
root_only f (inf true) r s p q a b = a ∙ sym b
root_only f (fin t zero e) r s p q a b = a ∙ sym b
root_only f (fin true (suc m) e) r s p q a b = a ∙ sym b
root_only f (fin false (suc m) e) r s p q a b = rooted_only f (suc m) e r s p q a b
