-- The size of a word, and the window that its root's digits are drawn from. Assumes nothing.
use Rattle.std.proofs.Common.{◌≡◌, ℕ, zero, suc, ◌+◌, ◌-◌, ◌*◌, ◌/◌, ◌%◌, ◌^◌, ◌<◌, ◌≤◌, sym, refl, ap, ◌∙◌, le_trans, le_of_suc-le-suc, mul_assoc, le_antisymm, pow-suc, lt_of_not-le, arith, lit<, lit≤, pow_mono, pow-add, shl_exact, shl_lt, subst}
use lib.Count.{count_leading_zeros, leading_length}
use lib.Ieee.{Format, binary32, binary64, prec, emax, hid, ones, size}
use lib.Ieee.Digits.{size-lt, size-le}
use lib.Ieee.Fits.{two}
use Rattle.root.specs.Root.{whole_root, place, root_at}

same_size : (m k : ℕ) → m < 2 ^ k → 2 ^ k ≤ 2 * m + 1 → k ≡ size m
same_size m k h l = le_antisymm (le_of_suc-le-suc (lt_of_not-le short)) (size-le m k h)
  where
    short : suc (size m) ≤ k → ⊥
    short g = omega (arith, size-lt m, le_trans (pow_mono g) l, pow-suc 2 (size m))

pub leading_size : (m : ℕ) → m < 2 ^ 64 → count_leading_zeros 64 m + size m ≡ 64
leading_size m h = let l = leading_length 64 m h in ap (λ (k : ℕ). count_leading_zeros 64 m + k) (sym (same_size m l.0 l.2 l.3)) ∙ l.1

power_sum : (m i j k : ℕ) → i + j ≡ k → m * 2 ^ i * 2 ^ j ≡ m * 2 ^ k
power_sum m i j k e = mul_assoc m (2 ^ i) (2 ^ j) ∙ ap (λ (x : ℕ). m * x) (sym (pow-add 2 i j) ∙ ap (λ (x : ℕ). 2 ^ x) e)

pub upper_is : (m d a : ℕ) → m < 2 ^ d → d < 63 → a < 2 → m * 2 ^ (d - size m + a) % 2 ^ 64 ≡ m * 2 ^ (d - size m + a)
upper_is m d a h D A = shl_exact (size m) (d - size m + a) 64 (size-lt m) (omega (arith, size-le m d h))

pub four_power : (k : ℕ) → 4 ^ k ≡ 2 ^ (2 * k)
four_power zero = refl
four_power (suc k) = pow-suc 4 k ∙ ap (λ (x : ℕ). x * 4) (four_power k) ∙ sym (pow-add 2 (2 * k) 2) ∙ ap (λ (x : ℕ). 2 ^ x) (omega arith)

-- the number of which this is the upper half is four times the radicand
pub upper_radicand : (m p a : ℕ) → m < 2 ^ p → 0 < p → m * 2 ^ (p - size m + a) * 2 ^ suc p ≡ 4 * (m * 2 ^ (2 * p - 1 + a - size m))
upper_radicand m p a h P =
    let z = size m in
    let s : z ≤ p = size-le m p h in
    let t = 2 * p - 1 + a - z in
    power_sum m (p - z + a) (suc p) (t + 2) (omega arith) ∙ sym (power_sum m t 2 (t + 2) refl) ∙ omega arith

pub upper_small : (m p d a w : ℕ) → d ≡ p → m < 2 ^ p → a < 2 → w ≡ m * 2 ^ (d - size m + a) → w < 2 ^ suc d
upper_small m p d a w e h A is =
    let l : m < 2 ^ d = subst (λ (x : ℕ). m < 2 ^ x) (sym e) h in
    let s : size m ≤ d = size-le m d l in
    subst (λ (x : ℕ). x < 2 ^ suc d) (sym is) (le_trans (shl_lt (size m) (d - size m + a) (size-lt m)) (pow_mono (omega arith)))

-- ---- the pattern of a root, as the code puts it together

pub record Bounds (f : Format) : Type 0 where
  pub digits : prec f ≤ 53
  pub exponents : emax f ≤ 1023
  pub patterns : ones f * hid f < 2 ^ 63

pub bounds : (f : Format) → Bounds f
bounds binary32 = record { digits = lit≤ tt; exponents = lit≤ tt; patterns = lit< tt }
bounds binary64 = record { digits = lit≤ tt; exponents = lit≤ tt; patterns = lit< tt }

module _ (f : Format) (m i : ℕ) {z rise : ℕ} (e : z ≡ size m) (r : rise ≡ emax f - prec f - 1) where
  place_is : i + z + rise ≡ place f m i
  place_is = λ j. i + e j + r j

  pub high_is : {hidden : ℕ} → hidden ≡ hid f → (i + z + rise) / 2 * hidden ≡ place f m i / 2 * hid f
  high_is h = λ j. place_is j / 2 * h j

  pub whole_is : {hidden digits w q : ℕ} → hidden ≡ hid f → digits ≡ prec f → m < 2 ^ prec f
      → w ≡ m * 2 ^ (digits - size m + (i + z + rise) % 2)
      → q ≡ (whole_root (suc digits) (w * 2 ^ suc digits) + 1) / 2
      → (i + z + rise) / 2 * hidden + q ≡ root_at f m i
  whole_is {digits = digits} {w = w} h d few u v =
      let p = prec f in
      let w_is : w ≡ m * 2 ^ (p - size m + place f m i % 2) = u ∙ (λ j. m * 2 ^ (d j - size m + place_is j % 2)) in
      let n_is =
      ap (λ (x : ℕ). x * 2 ^ suc p) w_is ∙ upper_radicand m p (place f m i % 2) few (omega (arith, two f)) in
      let q_is =
      v ∙ (λ j. (whole_root (suc (d j)) (w * 2 ^ suc (d j)) + 1) / 2)
      ∙ ap (λ (n : ℕ). (whole_root (suc p) n + 1) / 2) n_is in
      λ j. high_is h j + q_is j
