-- Laws of the floats that are finite and not negative, once for both formats: the larger of two is commutative, associative and
-- idempotent, and zero is its unit. Assumes nothing.
-- Such a value is a whole number of the format's smallest values, its `rank`, and it is the only one with that rank, since its bits are
-- made of the rank alone. The order is that of the ranks, so `float_max` is `max` of ranks, and each law is one of `max`.
use Rattle.std.specs.Prelude.{◌≡◌, ℕ, zero, suc, ◌+◌, ◌-◌, ◌*◌, ◌/◌, ◌%◌, ◌^◌, ◌<◌, ◌≤◌, max, Bool, true, false, cond, not, ◌&&◌, ◌||◌, T, ltb, ℤ, pos, negsuc, ◌==◌, nat_le, nat_lt, refl, Float}
use Rattle.std.proofs.Common.{sym, ap, ◌∙◌, subst, le_trans, le_of_eq, le_of_lt, le_of_suc-le-suc, lt_of_not-le, lt_of_lt_of_le, lt_irrefl, one-mul, mul-one, mul_assoc, mul_right_comm, mul-le-mul_right, mul-div_cancel, arith, ltb→lt, leb→le, eqb→eq, pow-add, pow_pos}
use Rattle.std.proofs.Math.Nat.{max_comm, max-zero, max-eq_left, max-eq_right}
use Rattle.std.proofs.Math.Pow.{pow-lt}
use Rattle.std.specs.Float.Ieee.{prec, emax, low, up, down, size, odd, units, round, neg, add, le, fits, is_nan, hid, of_bits, to_bits}
use Rattle.std.specs.Float.Ieee.Digits.{back}
use Rattle.std.specs.Float.Ieee.Fits.{add-fits, up_pos, down_pos, and_i, and_l, and_r}
use Rattle.std.specs.Float.Ieee.Exact.{HasValue}
use Rattle.std.specs.Float.Ieee.Bits.{is_false, of_bits-to_bits}
use Rattle.std.specs.Float.Ieee.Nearest.{div_mono}
use Rattle.std.specs.Float.Ieee.Order.{le_of_values}
use Rattle.std.specs.Float.{float_is_finite, is_sign_negative, float_with_sign, float_max, nan, inf, fin, Format, binary32, binary64}

-- a value of the format that is finite and not negative: a size
abbrev pub is_size : Format → Float → Bool
is_size f x = fits f x && (float_is_finite x && not (is_sign_negative x))

-- ---- what the test says

pub sized : (f : Format) (x : Float) → T (fits f x) → T (float_is_finite x) → T (not (is_sign_negative x)) → T (is_size f x)
sized f x p q r = and_i (fits f x) (float_is_finite x && not (is_sign_negative x)) p (and_i (float_is_finite x) (not (is_sign_negative x)) q r)

size_fits : (f : Format) (x : Float) → T (is_size f x) → T (fits f x)
size_fits f x t = and_l (fits f x) (float_is_finite x && not (is_sign_negative x)) t

-- to show P of every size, show it of each `fin false m e` that fits
size_elim : (f : Format) (P : Float → Type 0) → ((m : ℕ) (e : ℤ) → T (fits f (fin false m e)) → P (fin false m e))
    → (x : Float) → T (is_size f x) → P x
unfolding float_is_finite is_sign_negative
size_elim f P go nan t = absurd (and_r (fits f nan) false t)
size_elim f P go (inf s) t = absurd (and_r (fits f (inf s)) false t)
size_elim f P go (fin true m e) t = absurd (and_r (fits f (fin true m e)) false t)
size_elim f P go (fin false m e) t = go m e (and_l (fits f (fin false m e)) true t)

-- ---- the rank

-- how many of the format's smallest values make up a finite value
abbrev rank : Format → Float → ℕ
rank f nan = 0
rank f (inf s) = 0
rank f (fin s m e) = m * up e * 2 ^ low f / down e

-- the exponent of a value that fits is at least that of the smallest value
down_in : (f : Format) (s : Bool) (m : ℕ) (e : ℤ) → T (fits f (fin s m e)) → down e ≤ 2 ^ low f
unfolding fits
down_in f s zero e t =
    le_trans (le_of_eq (sym (one-mul (down e))))
    (le_trans (mul-le-mul_right (down e) (up_pos e)) (le_trans (le_of_eq (eqb→eq (up e * down e) 1 t)) (pow_pos (low f))))
down_in f s (suc m) e t =
    let A = suc m % 2 == 1 && ltb (suc m) (2 ^ prec f) in
    let C = nat_le (down e) (2 ^ low f) in
    leb→le (down e) (2 ^ low f) (and_r A C (and_l (A && C) (nat_lt (suc m * up e) (2 ^ suc (emax f) * down e)) t))

pow_le_back : (a l : ℕ) → 2 ^ a ≤ 2 ^ l → a ≤ l
pow_le_back a l h = le_of_suc-le-suc (lt_of_not-le (λ (g : suc l ≤ a). lt_irrefl (2 ^ l) (lt_of_lt_of_le (pow-lt g) h)))

-- no remainder is left
whole_by : (x c d : ℕ) → 0 < d → x ≡ c * d → x ≡ x / d * d
whole_by x c d D h = h ∙ ap (λ (q : ℕ). q * d) (sym (ap (λ (y : ℕ). y / d) h ∙ mul-div_cancel c D))

rank_whole : (l n : ℕ) (e : ℤ) → down e ≤ 2 ^ l → n * 2 ^ l ≡ n * 2 ^ l / down e * down e
rank_whole l n (pos a) h = whole_by (n * 2 ^ l) (n * 2 ^ l) 1 (pow_pos 0) (sym (mul-one (n * 2 ^ l)))
rank_whole l n (negsuc a) h =
    whole_by (n * 2 ^ l) (n * 2 ^ (l - suc a)) (2 ^ suc a) (pow_pos (suc a))
    (ap (λ (k : ℕ). n * 2 ^ k) (sym (back l (suc a) (pow_le_back (suc a) l h)))
    ∙ ap (λ (k : ℕ). n * k) (pow-add 2 (l - suc a) (suc a))
    ∙ sym (mul_assoc n (2 ^ (l - suc a)) (2 ^ suc a)))

rank_value : (f : Format) (x : Float) → T (is_size f x) → HasValue x false (rank f x) (2 ^ low f)
rank_value f =
    size_elim f (λ (x : Float). HasValue x false (rank f x) (2 ^ low f))
    (λ m e t. (refl, rank_whole (low f) (m * up e) e (down_in f false m e t)))

-- the bits of a size whose rank is n
abbrev bits_at : Format → ℕ → ℕ
bits_at f n = 0 + (size n - prec f) * hid f + n / 2 ^ (size n - prec f)

rank_bits : (f : Format) (x : Float) → T (is_size f x) → to_bits f x ≡ bits_at f (rank f x)
unfolding to_bits
rank_bits f = size_elim f (λ (x : Float). to_bits f x ≡ bits_at f (rank f x)) (λ m e t. refl)

rank_unique : (f : Format) (x y : Float) → T (is_size f x) → T (is_size f y) → rank f x ≡ rank f y → x ≡ y
rank_unique f x y p q h =
    sym (of_bits-to_bits f x (size_fits f x p))
    ∙ ap (of_bits f) (rank_bits f x p ∙ ap (bits_at f) h ∙ sym (rank_bits f y q))
    ∙ of_bits-to_bits f y (size_fits f y q)

-- ---- the order, by ranks

lt_or_eq : (a b : ℕ) → T (nat_lt a b || (a == b && true)) → a ≤ b
lt_or_eq a b t = go (nat_lt a b) (ltb→lt a b) t
  where
    go : (c : Bool) → (T c → a < b) → T (c || (a == b && true)) → a ≤ b
    go true h u = le_of_lt (h tt)
    go false h u = le_of_eq (eqb→eq a b (and_l (a == b) true u))

cross : (m : ℕ) (e : ℤ) (n : ℕ) (d : ℤ) → T (le (fin false m e) (fin false n d)) → m * up e * down d ≤ n * up d * down e
unfolding le
cross m e n d t = lt_or_eq (m * up e * down d) (n * up d * down e) t

le→rank : (f : Format) (x y : Float) → T (is_size f x) → T (is_size f y) → T (le x y) → rank f x ≤ rank f y
le→rank f x y p q =
    size_elim f (λ (x : Float). T (le x y) → rank f x ≤ rank f y)
    (λ m e t. size_elim f (λ (y : Float). T (le (fin false m e) y) → rank f (fin false m e) ≤ rank f y)
    (λ n d u h.
    let l = 2 ^ low f in
    div_mono (m * up e * l) (down e) (n * up d * l) (down d) (down_pos e) (down_pos d)
    (le_trans (le_of_eq (mul_right_comm (m * up e) l (down d)))
    (le_trans (mul-le-mul_right l (cross m e n d h)) (le_of_eq (mul_right_comm (n * up d) (down e) l)))))
    y q)
    x p

rank→le : (f : Format) (x y : Float) → T (is_size f x) → T (is_size f y) → rank f x ≤ rank f y → T (le x y)
rank→le f x y p q h =
    le_of_values x y (rank f x) (2 ^ low f) (rank f y) (2 ^ low f) (pow_pos (low f)) (pow_pos (low f)) (rank_value f x p) (rank_value f y q)
    (mul-le-mul_right (2 ^ low f) h)

no_nan : (f : Format) (x : Float) → T (is_size f x) → T (not (is_nan x))
unfolding is_nan
no_nan f = size_elim f (λ (x : Float). T (not (is_nan x))) (λ m e t. tt)

-- ---- `float_max`, by ranks

pub most_size : (f : Format) (x y : Float) → T (is_size f x) → T (is_size f y) → T (is_size f (float_max x y))
most_size f x y p q = go (le y x || is_nan y)
  where
    go : (b : Bool) → T (is_size f (cond b x y))
    go true = p
    go false = q

most_rank : (f : Format) (x y : Float) → T (is_size f x) → T (is_size f y) → rank f (float_max x y) ≡ max (rank f x) (rank f y)
most_rank f x y p q = go (le y x) (le→rank f y x q p) (rank→le f y x q p)
  where
    go : (b : Bool) → (T b → rank f y ≤ rank f x) → (rank f y ≤ rank f x → T b)
        → rank f (cond (b || is_nan y) x y) ≡ max (rank f x) (rank f y)
    go true h k = sym (max-eq_left (h tt))
    go false h k =
        ap (λ (c : Bool). rank f (cond c x y)) (is_false (is_nan y) (no_nan f y q))
        ∙ sym (max-eq_right (le_of_lt (lt_of_not-le k)))

pub most_comm : (f : Format) (x y : Float) → T (is_size f x) → T (is_size f y) → float_max x y ≡ float_max y x
most_comm f x y p q =
    rank_unique f (float_max x y) (float_max y x) (most_size f x y p q) (most_size f y x q p)
    (most_rank f x y p q ∙ max_comm (rank f x) (rank f y) ∙ sym (most_rank f y x q p))

max_assoc : (a b c : ℕ) → max (max a b) c ≡ max a (max b c)
max_assoc a b c = omega arith

pub most_assoc : (f : Format) (x y z : Float) → T (is_size f x) → T (is_size f y) → T (is_size f z)
    → float_max (float_max x y) z ≡ float_max x (float_max y z)
most_assoc f x y z p q r =
    let xy = most_size f x y p q in
    let yz = most_size f y z q r in
    rank_unique f (float_max (float_max x y) z) (float_max x (float_max y z)) (most_size f (float_max x y) z xy r) (most_size f x (float_max y z) p yz)
    (most_rank f (float_max x y) z xy r
    ∙ ap (λ (n : ℕ). max n (rank f z)) (most_rank f x y p q)
    ∙ max_assoc (rank f x) (rank f y) (rank f z)
    ∙ sym (most_rank f x (float_max y z) p yz ∙ ap (λ (n : ℕ). max (rank f x) n) (most_rank f y z q r)))

pub most_idem : (f : Format) (x : Float) → T (is_size f x) → float_max x x ≡ x
most_idem f x p = go (le x x || is_nan x)
  where
    go : (b : Bool) → cond b x x ≡ x
    go true = refl
    go false = refl

-- ---- zero

pub zero_size : (f : Format) → T (is_size f (fin false 0 (pos 0)))
unfolding fits float_is_finite is_sign_negative
zero_size f = tt

-- the zero that a literal stands for
pub zero_bits : (f : Format) → float_with_sign false (of_bits f 0) ≡ fin false 0 (pos 0)
unfolding of_bits float_with_sign
zero_bits binary32 = refl
zero_bits binary64 = refl

zero_rank : (f : Format) → rank f (fin false 0 (pos 0)) ≡ 0
zero_rank binary32 = refl
zero_rank binary64 = refl

pub most_fin_zero : (f : Format) (x : Float) → T (is_size f x) → float_max x (fin false 0 (pos 0)) ≡ x
most_fin_zero f x p =
    let z = fin false 0 (pos 0) in
    rank_unique f (float_max x z) x (most_size f x z p (zero_size f)) p
    (most_rank f x z p (zero_size f) ∙ ap (λ (n : ℕ). max (rank f x) n) (zero_rank f) ∙ max-zero (rank f x))

pub most_zero : (f : Format) (x : Float) → T (is_size f x) → float_max x (float_with_sign false (of_bits f 0)) ≡ x
most_zero f x p = ap (λ (z : Float). float_max x z) (zero_bits f) ∙ most_fin_zero f x p

-- ---- the absolute value

unsigned_fits : (f : Format) (x : Float) → T (fits f x) → T (fits f (float_with_sign false x))
unfolding fits float_with_sign
unsigned_fits f nan h = tt
unsigned_fits f (inf s) h = tt
unsigned_fits f (fin s zero e) h = h
unsigned_fits f (fin s (suc m) e) h = h

pub unsigned : (x : Float) → T (not (is_sign_negative (float_with_sign false x)))
unfolding is_sign_negative float_with_sign
unsigned nan = tt
unsigned (inf s) = tt
unsigned (fin s m e) = tt

pub abs_size : (f : Format) (x : Float) → T (fits f x) → T (float_is_finite (float_with_sign false x)) → T (is_size f (float_with_sign false x))
abs_size f x p q = sized f (float_with_sign false x) (unsigned_fits f x p) q (unsigned x)

pub abs_neg : (x : Float) → float_with_sign false (neg x) ≡ float_with_sign false x
unfolding neg float_with_sign
abs_neg nan = refl
abs_neg (inf s) = refl
abs_neg (fin s m e) = refl

-- ---- the sum

-- a fraction rounded with no sign has none, overflow included
odd_sign : (d q k l : ℕ) → T (not (is_sign_negative (odd d false q k l)))
unfolding odd is_sign_negative
odd_sign d zero k l = tt
odd_sign d (suc q) k l = tt

units_sign : (f : Format) (q k : ℕ) → T (not (is_sign_negative (units f false q k)))
unfolding units
units_sign f q k = go (nat_lt (q * 2 ^ k) (2 ^ (low f + suc (emax f))))
  where
    go : (b : Bool) → T (not (is_sign_negative (cond b (odd (suc (prec f)) false q k (low f)) (inf false))))
    go true = odd_sign (suc (prec f)) q k (low f)
    go false = unfold is_sign_negative in tt

round_sign : (f : Format) (n d : ℕ) → T (not (is_sign_negative (round f false n d)))
unfolding round
round_sign f n d = units_sign f _ _

add_is : (f : Format) (m : ℕ) (e : ℤ) (n : ℕ) (d : ℤ)
    → add f (fin false m e) (fin false n d) ≡ round f false (m * up e * down d + n * up d * down e) (down e * down d)
unfolding add
add_is f m e n d = refl

pub add_size : (f : Format) (x y : Float) → T (is_size f x) → T (is_size f y) → T (float_is_finite (add f x y)) → T (is_size f (add f x y))
add_size f x y p q h = sized f (add f x y) (add-fits f x y) h
    (size_elim f (λ (x : Float). T (not (is_sign_negative (add f x y))))
    (λ m e t. size_elim f (λ (y : Float). T (not (is_sign_negative (add f (fin false m e) y))))
    (λ n d u.
    subst (λ (z : Float). T (not (is_sign_negative z))) (sym (add_is f m e n d))
    (round_sign f (m * up e * down d + n * up d * down e) (down e * down d)))
    y q)
    x p)

pub add_zero_zero : (f : Format) → add f (fin false 0 (pos 0)) (fin false 0 (pos 0)) ≡ fin false 0 (pos 0)
unfolding add
add_zero_zero binary32 = refl
add_zero_zero binary64 = refl
