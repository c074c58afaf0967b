-- The patterns at which the root and the library's differ, counted.
use Rattle.std.specs.Prelude.{ℕ, zero, suc, ◌+◌, ◌*◌, ◌/◌, ◌%◌, ◌^◌, Bool, not, List, [], ◌∷◌, ◌==◌, bit_xor, count_by, from_bits, to_bits, Float}
use Rattle.std.specs.Float.{sqrt, Format}
use Rattle.std.specs.Float.Ieee.{hid, top}
use Rattle.root.specs.Root.{root_of}

-- whether the two roots of v have different patterns
abbrev pub is_unlike : Format → Float → Bool
is_unlike f v = not (to_bits f (root_of f v) == to_bits f (sqrt f v))

-- how many of the words have such a float at their lower end: binary32 takes the lower half, binary64 all of a word
abbrev pub unlike_in : Format → List ℕ → ℕ
unlike_in f words = count_by (λ b. is_unlike f (from_bits f (b % (2 * top f)))) words

-- the next of a run of words
unfoldable pub shuffled : ℕ → ℕ
shuffled x =
    let a = bit_xor x (x * 2 ^ 13 % 2 ^ 64) in
    let b = bit_xor a (a / 2 ^ 7) in
    bit_xor b (b * 2 ^ 17 % 2 ^ 64)

-- each word of the run three times: as it is, without its sign, and without its sign and exponent
abbrev pub unlike_around : Format → ℕ → ℕ
unlike_around f x = unlike_in f (x ∷ x % top f ∷ x % hid f ∷ [])

unfoldable pub unlike_from : Format → ℕ → ℕ → ℕ
unlike_from f zero x = 0
unlike_from f (suc n) x = unlike_around f x + unlike_from f n (shuffled x)
