-- The radicand of a significand of at most p digits, and the nearest whole number to its root. Assumes nothing.
use Rattle.std.specs.Prelude.{◌≡◌, ℕ, zero, suc, ◌+◌, ◌-◌, ◌*◌, ◌/◌, ◌%◌, ◌^◌, ◌<◌, ◌≤◌, ◌⊎◌, refl}
use Rattle.std.proofs.Common.{sym, ap, ◌∙◌, subst, inl, inr, le_trans, le_of_eq, lt_of_lt_of_le, lt_of_not-le, mul_assoc, mul-le-mul, mul-le-mul_right, le-mul_of_pos_right, arith, pow-add, pow_pos, pow_mono}
use Rattle.std.specs.Float.Ieee.{size}
use Rattle.std.specs.Float.Ieee.Digits.{size-lt, size-le, size_reaches}
use Rattle.root.specs.Whole.{Floor, lt_of_squares}

-- ---- halving

-- with h = 2^(p - 1), the format's p digits are those from h to 2 h - 1
pub record Near (h n q : ℕ) : Type 0 where
  pub from : h ≤ q
  pub below : q < 2 * h
  pub not_less : (2 * q - 1) * (2 * q - 1) < 4 * n
  pub not_more : 4 * n < (2 * q + 1) * (2 * q + 1)

no_odd_square : (n j : ℕ) → (2 * j + 1) * (2 * j + 1) ≤ 4 * n → (2 * j + 1) * (2 * j + 1) < 4 * n
no_odd_square n j h = omega arith

under : (h n s g : ℕ) → g + 1 ≡ 4 * h → n + 2 * h ≤ 4 * (h * h) → s * s ≤ 4 * n → s < g
under h n s g e b r = lt_of_squares s g (omega (arith, ap (λ (x : ℕ). x * x) e))

-- the root of 4 n, cut, and halved rounding up: 4 n is no odd square
pub halved : (h n s : ℕ) → 0 < h → h * h ≤ n → n + 2 * h ≤ 4 * (h * h) → Floor (4 * n) s → Near h n ((s + 1) / 2)
halved h n s H a b r =
    let q = (s + 1) / 2 in
    let lo : 2 * h < s + 1 = lt_of_squares (2 * h) (s + 1) (omega (arith, r.below)) in
    let hi : s < 4 * h - 1 = under h n s (4 * h - 1) (omega arith) b r.from in
    let j = q - 1 in
    let is : 2 * j + 1 ≡ 2 * q - 1 = omega arith in
    let l : 2 * j + 1 ≤ s = omega arith in
    let m : s + 1 ≤ 2 * q + 1 = omega arith in
    record {
      from = omega arith;
      below = omega arith;
      not_less = subst (λ (x : ℕ). x * x < 4 * n) is (no_odd_square n j (le_trans (mul-le-mul l l) r.from));
      not_more = lt_of_lt_of_le r.below (mul-le-mul m m);
    }

-- ---- a number's digits

size_pos : (m : ℕ) → 0 < m → 0 < size m
size_pos m h = lt_of_not-le (λ (g : size m ≤ 0). omega (arith, lt_of_lt_of_le (size-lt m) (pow_mono g)))

size_from : (m : ℕ) → 0 < m → 2 ^ (size m - 1) ≤ m
size_from m h = let z = size_pos m h in size_reaches m (size m - 1) (omega arith)

-- ---- m, of z digits and at most p, with t zeros put behind it

power_sum : (i j k : ℕ) → i + j ≡ k → 2 ^ i * 2 ^ j ≡ 2 ^ k
power_sum i j k e = sym (pow-add 2 i j) ∙ ap (λ (x : ℕ). 2 ^ x) e

abbrev Fit : ℕ → ℕ → ℕ → ℕ → Type 0
Fit h n u x = (n + u ≤ 2 * (h * h * x)) × (h * x ≤ u)

-- h * h is 2^(2p - 2) and A is 2^a, for an a of 0 or 1
room_for : (h n u A : ℕ) → 0 < h → n + u ≤ 2 * (h * h * A) → h * A ≤ u → (A ≡ 1) ⊎ (A ≡ 2) → n + 2 * h ≤ 4 * (h * h)
room_for h n u A H a b (inl e) =
    let s = le-mul_of_pos_right h H in
    let k = subst (Fit h n u) e (a, b) in
    omega arith
room_for h n u A H a b (inr e) =
    let k = subst (Fit h n u) e (a, b) in
    omega arith

one_or_two : (a : ℕ) → a < 2 → (2 ^ a ≡ 1) ⊎ (2 ^ a ≡ 2)
one_or_two zero h = inl refl
one_or_two (suc zero) h = inr refl
one_or_two (suc (suc a)) h = absurd (past a h)
  where
    past : (a : ℕ) → suc (suc a) < 2 → ⊥
    past a h = omega arith

pub record Ranged (h n : ℕ) : Type 0 where
  pub from : h * h ≤ n
  pub room : n + 2 * h ≤ 4 * (h * h)

pub ranged : (p m a : ℕ) → 0 < p → 0 < m → m < 2 ^ p → a < 2 → Ranged (2 ^ (p - 1)) (m * 2 ^ (2 * p - 1 + a - size m))
ranged p m a P M B A =
    let z = size m in
    let t = 2 * p - 1 + a - z in
    let h = 2 ^ (p - 1) in
    let Z : 0 < z = size_pos m M in
    let L : z ≤ p = size-le m p B in
    let square : h * h * 2 ^ a ≡ 2 ^ (2 * p - 2 + a) =
    ap (λ (x : ℕ). x * 2 ^ a) (power_sum (p - 1) (p - 1) (2 * p - 2) (omega arith)) ∙ sym (pow-add 2 (2 * p - 2) a) in
    let lo : h * h * 2 ^ a ≤ m * 2 ^ t =
    le_trans (le_of_eq (square ∙ sym (power_sum (z - 1) t (2 * p - 2 + a) (omega arith)))) (mul-le-mul_right (2 ^ t) (size_from m M)) in
    let top : 2 ^ z * 2 ^ t ≡ 2 * (h * h * 2 ^ a) =
    power_sum z t (1 + (2 * p - 2 + a)) (omega arith) ∙ pow-add 2 1 (2 * p - 2 + a) ∙ ap (λ (x : ℕ). 2 * x) (sym square) in
    let hi : suc m * 2 ^ t ≤ 2 * (h * h * 2 ^ a) = le_trans (mul-le-mul_right (2 ^ t) (size-lt m)) (le_of_eq top) in
    let gap : h * 2 ^ a ≤ 2 ^ t = le_trans (le_of_eq (power_sum (p - 1) a (p - 1 + a) refl)) (pow_mono (omega arith)) in
    record {
      from = le_trans (le-mul_of_pos_right (h * h) (pow_pos a)) lo;
      room = room_for h (m * 2 ^ t) (2 ^ t) (2 ^ a) (pow_pos (p - 1)) (omega (arith, hi)) gap (one_or_two a A);
    }

-- ---- the radicand at its scale is m at its own

pub radicand_scale : (p e m i : ℕ) → 0 < m → m < 2 ^ p → p < e
    → m * 2 ^ (2 * p - 1 + (i + size m + (e - p - 1)) % 2 - size m) * 2 ^ (2 * ((i + size m + (e - p - 1)) / 2))
    ≡ m * 2 ^ i * 2 ^ (e + p - 2)
radicand_scale p e m i M B E =
    let Z : 0 < size m = size_pos m M in
    let L : size m ≤ p = size-le m p B in
    let k = i + size m + (e - p - 1) in
    mul_assoc m (2 ^ (2 * p - 1 + k % 2 - size m)) (2 ^ (2 * (k / 2)))
    ∙ ap (λ (x : ℕ). m * x) (power_sum (2 * p - 1 + k % 2 - size m) (2 * (k / 2)) (i + (e + p - 2)) (omega arith) ∙ pow-add 2 i (e + p - 2))
    ∙ sym (mul_assoc m (2 ^ i) (2 ^ (e + p - 2)))
