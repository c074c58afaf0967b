-- Zeros at the end add nothing to a little-endian number.
use Rattle.std.proofs.Common.{◌≡◌, ℕ, zero, suc, ◌-◌, min, List, [], ◌∷◌, ◌++◌, length, take, drop, replicate, refl, ap, ◌∙◌, arith}
use Rattle.std.proofs.lemmas.List.{drop-replicate, take_min}
use Rattle.sheet.specs.Bytes.{little_endian}

zeros_last : (xs : List ℕ) (n : ℕ) → little_endian (xs ++ replicate n 0) ≡ little_endian xs
zeros_last [] zero = refl
zeros_last [] (suc n) = omega (arith, zeros_last [] n)
zeros_last (b ∷ xs) n = omega (arith, zeros_last xs n)

-- What is read of a list into zeros.
pub read_into : (n count : ℕ) (part rest xs : List ℕ) → rest ≡ xs → count ≡ min n (length rest) → part ≡ take count rest →
    little_endian (part ++ drop count (replicate n 0)) ≡ little_endian (take n xs)
read_into n count part rest xs same least is =
    ap (λ ys. little_endian (part ++ ys)) (drop-replicate count n 0) ∙ zeros_last part (n - count) ∙
    ap little_endian (is ∙ ap (λ k. take k rest) least ∙ take_min n rest ∙ ap (take n) same)
