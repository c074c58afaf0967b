-- Squares and whole parts of roots. Assumes nothing.
use Rattle.std.specs.Prelude.{◌≡◌, ℕ, zero, suc, ◌+◌, ◌*◌, ◌/◌, ◌^◌, ◌<◌, ◌≤◌, Bool, true, false, cond, not, T, nat_le}
use Rattle.std.proofs.Common.{subst, lt_of_not-le, mul-le-mul, pow-suc, div-lt_iff_lt-mul, zero-lt-suc, arith, leb→le}
use Rattle.std.proofs.Math.Dec.{nleb→lt}
use Rattle.root.specs.Root.{with_digit, whole_root}

-- s is the root of n, cut to a whole number
pub record Floor (n s : ℕ) : Type 0 where
  pub from : s * s ≤ n
  pub below : n < (s + 1) * (s + 1)

pub lt_of_squares : (a b : ℕ) → a * a < b * b → a < b
lt_of_squares a b h = lt_of_not-le (λ (g : b ≤ a). omega (arith, mul-le-mul g g))

pub floor_only : (n s t : ℕ) → Floor n s → Floor n t → s ≡ t
floor_only n s t a b =
    let x : s < t + 1 = lt_of_squares s (t + 1) (omega arith) in
    let y : t < s + 1 = lt_of_squares t (s + 1) (omega arith) in
    omega arith

with_digit_floor : (r n : ℕ) → Floor (n / 4) r → Floor n (with_digit r n)
with_digit_floor r n h = go (nat_le ((2 * r + 1) * (2 * r + 1)) n) (leb→le ((2 * r + 1) * (2 * r + 1)) n) (nleb→lt ((2 * r + 1) * (2 * r + 1)) n)
  where
    go : (b : Bool) → (T b → (2 * r + 1) * (2 * r + 1) ≤ n) → (T (not b) → n < (2 * r + 1) * (2 * r + 1))
        → Floor n (cond b (2 * r + 1) (2 * r))
    go true y z = record { from = y tt; below = omega (arith, h.below) }
    go false y z = record { from = omega (arith, h.from); below = z tt }

pub whole_root_floor : (k n : ℕ) → n < 4 ^ k → Floor n (whole_root k n)
unfolding whole_root
whole_root_floor zero n h = omega arith
whole_root_floor (suc k) n h =
    with_digit_floor (whole_root k (n / 4)) n
    (whole_root_floor k (n / 4) ((div-lt_iff_lt-mul (zero-lt-suc 3)).1 (subst (λ (x : ℕ). n < x) (pow-suc 4 k) h)))
