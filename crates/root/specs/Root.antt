-- The correctly rounded square root of binary64 and binary32, as a relation over whole numbers (`IsRoot`), and a function whose results
-- meet it (`root_of`). That they do is `Exists.antt`, and that nothing else does is `Only.antt`.
use Rattle.std.specs.Prelude.{◌≡◌, ℕ, zero, suc, ◌+◌, ◌-◌, ◌*◌, ◌/◌, ◌%◌, ◌^◌, ◌<◌, ◌≤◌, true, false, cond, ◌==◌, from_bits, nat_le, nat_lt, to_bits, Float}
use Rattle.std.specs.Float.{nan, inf, fin, Format}
use Rattle.std.specs.Float.Ieee.{prec, emax, size, hid, ones, top}
use Rattle.std.specs.Float.Ieee.Exact.{HasValue}

-- The root of a v above zero. With v = radicand × 2^(2k), the radicand having 2p - 1 or 2p binary digits, it is digits × 2^k with p digits,
-- and the exact root lies less than half a digit away: (2 digits - 1)² < 4 radicand < (2 digits + 1)². Here k = up - down and p = prec f.
pub record Rooted (f : Format) (v r : Float) : Type 0 where
  pub radicand : ℕ
  pub digits : ℕ
  pub up : ℕ
  pub down : ℕ
  pub radicand_from : 2 ^ (2 * prec f - 2) ≤ radicand
  pub radicand_below : radicand < 2 ^ (2 * prec f)
  pub digits_from : 2 ^ (prec f - 1) ≤ digits
  pub digits_below : digits < 2 ^ prec f
  pub of : HasValue v false (radicand * 2 ^ (2 * up)) (2 ^ (2 * down))
  pub is : HasValue r false (digits * 2 ^ up) (2 ^ down)
  pub not_less : (2 * digits - 1) * (2 * digits - 1) < 4 * radicand
  pub not_more : 4 * radicand < (2 * digits + 1) * (2 * digits + 1)

-- r is the root of v
abbrev pub IsRoot : Format → Float → Float → Type 0
IsRoot f nan r = r ≡ nan
IsRoot f (inf false) r = r ≡ inf false
IsRoot f (inf true) r = r ≡ nan
IsRoot f (fin s zero e) r = r ≡ fin s zero e
IsRoot f (fin false (suc m) e) r = Rooted f (fin false (suc m) e) r
IsRoot f (fin true (suc m) e) r = r ≡ nan

-- ---- a function that gives it, by way of the bit patterns

-- the whole part of the root of an n below 4 ^ k, a digit for each two binary digits of n
abbrev pub with_digit : ℕ → ℕ → ℕ
with_digit r n = cond (nat_le ((2 * r + 1) * (2 * r + 1)) n) (2 * r + 1) (2 * r)

unfoldable pub whole_root : ℕ → ℕ → ℕ
whole_root zero n = 0
whole_root (suc k) n = with_digit (whole_root k (n / 4)) n

-- The pattern b of a number above zero stands for significand × 2^(scale - low).
abbrev pub significand : Format → ℕ → ℕ
significand f b = b % hid f + cond (nat_lt b (hid f)) 0 (hid f)

abbrev pub scale : Format → ℕ → ℕ
scale f b = b / hid f - 1

-- twice the root's scale, and one more where the radicand has its first digit set
abbrev pub place : Format → ℕ → ℕ → ℕ
place f m i = i + size m + (emax f - prec f - 1)

abbrev pub radicand_of : Format → ℕ → ℕ → ℕ
radicand_of f m i = m * 2 ^ (2 * prec f - 1 + place f m i % 2 - size m)

-- the root of 4 n to the whole number below, halved and rounded up: the root of n to the nearest whole number
abbrev pub nearest_root : ℕ → ℕ → ℕ
nearest_root k n = (whole_root (suc k) (4 * n) + 1) / 2

abbrev pub root_at : Format → ℕ → ℕ → ℕ
root_at f m i = place f m i / 2 * hid f + nearest_root (prec f) (radicand_of f m i)

abbrev pub quiet : Format → ℕ
quiet f = ones f * hid f + hid f / 2

abbrev pub root_bits : Format → ℕ → ℕ
root_bits f b =
    cond (b % top f == 0) b
    (cond (nat_lt b (ones f * hid f)) (root_at f (significand f b) (scale f b))
    (cond (b == ones f * hid f) b (quiet f)))

unfoldable pub root_of : Format → Float → Float
root_of f v = from_bits f (root_bits f (to_bits f v))
