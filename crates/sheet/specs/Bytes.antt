-- Numbers in bytes, the least significant byte first. Definitions only.
use Rattle.std.specs.Prelude.{ℕ, ◌+◌, ◌*◌, List, [], ◌∷◌, take, drop}

abbrev pub little_endian : List ℕ → ℕ
little_endian [] = 0
little_endian (b ∷ bs) = b + 256 * little_endian bs

-- The number in the `width` bytes from `at` on; bytes past the end add nothing.
abbrev pub field : ℕ → ℕ → List ℕ → ℕ
field at width bs = little_endian (take width (drop at bs))
