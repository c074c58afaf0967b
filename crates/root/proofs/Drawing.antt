-- One digit of a root, and what is left to draw after it. Assumes nothing.
use Rattle.std.proofs.Common.{mul-div_cancel, ltb-true, ltb-false, nat_lt, pow_pos, pow-add, ◌≡◌, ℕ, suc, ◌+◌, ◌-◌, ◌*◌, ◌/◌, ◌%◌, ◌^◌, ◌<◌, ◌≤◌, Bool, true, false, cond, sym, refl, ap, ◌∙◌, subst, zero-lt-suc, mul-lt-mul_of_pos_right, pow-suc, add-one, arith, pow_mono}
use native.Mathlib.Nat.{pow-le-pow_right}
use Rattle.root.specs.Root.{whole_root}
use Rattle.root.proofs.Windows.{four_power}
use Rattle.root.specs.Whole.{Floor, lt_of_squares, floor_only, whole_root_floor}

square_of_power : (k : ℕ) → 2 ^ k * 2 ^ k ≡ 4 ^ k
square_of_power k =
    let e : k + k ≡ 2 * k = omega arith in
    sym (pow-add 2 k k) ∙ ap (λ (x : ℕ). 2 ^ x) e ∙ sym (four_power k)

pub weights : (left : ℕ) → 0 < left → 2 ^ left ≡ 2 * 2 ^ (left - 1)
weights left h =
    let e : left ≡ suc (left - 1) = omega arith in
    omega (arith, ap (λ (x : ℕ). 2 ^ x) e ∙ pow-suc 2 (left - 1))

-- what is left to draw after a digit of the weight p
pub record Next (twice tail p next rest : ℕ) : Type 0 where
  pub even : next % 2 ≡ 0
  pub less : rest < 2 * (next + p)
  pub small : next ≤ twice + 2 * p
  pub same : next / 2 * (next / 2) + rest * p / 2 ≡ twice / 2 * (twice / 2) + tail * (2 * p) / 2

no_digit : (twice tail p : ℕ) → twice % 2 ≡ 0 → tail < twice + p → Next twice tail p twice (2 * tail - 0)
no_digit twice tail p e h =
    let z : 2 * tail - 0 ≡ 2 * tail = omega arith in
    let s : (2 * tail - 0) * p ≡ tail * (2 * p) = omega (arith, ap (λ (x : ℕ). x * p) z) in
    record {
      even = e;
      less = omega arith;
      small = omega arith;
      same = ap (λ (x : ℕ). twice / 2 * (twice / 2) + x / 2) s;
    }

one_digit : (q d p : ℕ) → d < 2 * q + 3 * p → Next (2 * q) (2 * q + p + d) p (2 * q + 2 * p) (2 * d)
one_digit q d p h =
    let n : (2 * q + 2 * p) / 2 ≡ q + p = omega arith in
    let k : 2 * q / 2 ≡ q = omega arith in
    let r : 2 * d * p / 2 ≡ d * p = ap (λ (x : ℕ). x / 2) (omega arith) ∙ mul-div_cancel (d * p) (zero-lt-suc 1) in
    let t : (2 * q + p + d) * (2 * p) / 2 ≡ (2 * q + p + d) * p =
    ap (λ (x : ℕ). x / 2) (omega arith) ∙ mul-div_cancel ((2 * q + p + d) * p) (zero-lt-suc 1) in
    let s : (q + p) * (q + p) + d * p ≡ q * q + (2 * q + p + d) * p = omega arith in
    record {
      even = omega arith;
      less = omega arith;
      small = omega arith;
      same = (λ j. n j * n j + r j) ∙ s ∙ sym (λ j. k j * k j + t j);
    }

a_digit : (twice tail p : ℕ) → twice % 2 ≡ 0 → twice + p ≤ tail → tail < 2 * (twice + 2 * p)
    → Next twice tail p (twice + 2 * p) (2 * tail - 2 * (twice + p))
a_digit twice tail p e h l =
    let q = twice / 2 in
    let d = tail - (twice + p) in
    let w : 2 * q ≡ twice = omega arith in
    let t : twice + p + d ≡ tail = omega arith in
    let r : 2 * d ≡ 2 * tail - 2 * (twice + p) = omega arith in
    subst (λ (x : ℕ). Next twice tail p (twice + 2 * p) x) r
    (subst (λ (x : ℕ). Next twice x p (twice + 2 * p) (2 * d)) t
    (subst (λ (x : ℕ). Next x (x + p + d) p (x + 2 * p) (2 * d)) w (one_digit q d p (omega arith))))

-- what `digit` answers, by the outcome of its comparison
abbrev chosen : (twice p : ℕ) → Bool → ℕ × ℕ
chosen twice p b = cond b (twice, 0) (twice + 2 * p, 2 * (twice + p))

drawn_next : (twice tail p : ℕ) (r : ℕ × ℕ) → twice % 2 ≡ 0 → tail < 2 * (twice + 2 * p)
    → r ≡ cond (nat_lt tail (twice + p)) (twice, 0) (twice + 2 * p, 2 * (twice + p)) → Next twice tail p r.0 (2 * tail - r.1)
drawn_next twice tail p r e l is =
    subst (λ (x : ℕ × ℕ). Next twice tail p x.0 (2 * tail - x.1)) (sym is)
    (go (nat_lt tail (twice + p)) (ltb-true tail (twice + p)) (ltb-false tail (twice + p)))
  where
    go : (b : Bool) → (b ≡ true → tail < twice + p) → (b ≡ false → twice + p ≤ tail)
        → Next twice tail p (chosen twice p b).0 (2 * tail - (chosen twice p b).1)
    go true y n = no_digit twice tail p e (y refl)
    go false y n = a_digit twice tail p e (n refl) l

pub stepped : (twice tail bit left : ℕ) (r : ℕ × ℕ) → 0 < left → twice % 2 ≡ 0 → bit ≡ 2 ^ left / 2 → tail < 2 * (twice + 2 ^ left)
    → r ≡ cond (nat_lt tail (twice + bit)) (twice, 0) (twice + 2 * bit, 2 * (twice + bit))
    → Next twice tail (2 ^ (left - 1)) r.0 (2 * tail - r.1)
stepped twice tail bit left r h e b l is =
    let w = weights left h in
    let p : bit ≡ 2 ^ (left - 1) = omega arith in
    drawn_next twice tail (2 ^ (left - 1)) r e (omega arith)
    (is ∙ ap (λ (x : ℕ). cond (nat_lt tail (twice + x)) (twice, 0) (twice + 2 * x, 2 * (twice + x))) p)

-- ---- from the first digit on

pub start : (k : ℕ) → k < 58 → 0 + 2 * 2 ^ (k + 1) ≤ 2 ^ 60
start k h = omega (arith, pow_mono {i = k + 1} {j = 59} (omega arith))

-- the number drawn, as `draw` has it at the first digit
whole : (u k : ℕ) → 0 * 0 + 2 * u * 2 ^ (k + 1) / 2 ≡ u * 2 ^ suc k
whole u k =
    let e : 2 * u * 2 ^ (k + 1) ≡ u * 2 ^ suc k * 2 = omega (arith, ap (λ (x : ℕ). u * 2 ^ x) (add-one k)) in
    let z : 0 * 0 + 2 * u * 2 ^ (k + 1) / 2 ≡ 2 * u * 2 ^ (k + 1) / 2 = omega arith in
    z ∙ ap (λ (x : ℕ). x / 2) e ∙ mul-div_cancel (u * 2 ^ suc k) (zero-lt-suc 1)

below : (u k : ℕ) → u < 2 ^ k → u * 2 ^ k < 4 ^ k
below u k h = subst (λ (x : ℕ). u * 2 ^ k < x) (square_of_power k) (mul-lt-mul_of_pos_right h (pow_pos k))

pub drawn : (u k s : ℕ) → u < 2 ^ suc k → Floor (0 * 0 + 2 * u * 2 ^ (k + 1) / 2) s → s ≡ whole_root (suc k) (u * 2 ^ suc k)
drawn u k s h r =
    let n = u * 2 ^ suc k in
    floor_only n s (whole_root (suc k) n) (subst (λ (x : ℕ). Floor x s) (whole u k) r) (whole_root_floor (suc k) n (below u (suc k) h))

pub drawn_below : (u k s : ℕ) → u < 2 ^ suc k → k < 58 → Floor (0 * 0 + 2 * u * 2 ^ (k + 1) / 2) s → s < 2 ^ 60
drawn_below u k s h K r =
    let l : suc k ≤ 60 = omega arith in
    let b : 4 ^ suc k ≤ 4 ^ 60 = pow-le-pow_right {n = 4} (zero-lt-suc 3) l in
    lt_of_squares s (2 ^ 60) (omega (arith, r.from, whole u k, below u (suc k) h))
