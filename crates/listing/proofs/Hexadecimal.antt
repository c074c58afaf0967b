-- Sixteen hexadecimal digits are those of the number with zeros before them.
use Rattle.std.proofs.Common.{◌≡◌, ℕ, zero, suc, ◌+◌, ◌-◌, ◌/◌, ◌%◌, ◌^◌, ◌<◌, Bool, true, false, cond, eqb, List, [], ◌∷◌, ◌++◌, length, replicate, refl, sym, ap, ◌∙◌, append_assoc, add-one, arith}
use Rattle.std.proofs.lemmas.Bool.{eqb-true, eqb-false}
use Rattle.std.proofs.lemmas.List.{append-nil, replicate_more}
use Rattle.std.proofs.Math.Nat.{pow-suc}
use Rattle.std.specs.Fmt.{digits, digits_onto, padded_integral, format_spec, char_count}
use Rattle.listing.specs.Text.{hex_digit, hex_digits}

-- `ds` is the last `count` digits of `n` before `acc`, but for the zeros that stand first.
record Front (count n : ℕ) (acc ds : List ℕ) : Type 0 where
  zeros : ℕ
  many : zeros + length ds ≡ count + length acc
  text : replicate zeros 48 ++ ds ≡ hex_digits count n ++ acc

zeros_alone : (count : ℕ) → replicate count 48 ≡ hex_digits count 0
unfolding hex_digits
zeros_alone zero = refl
zeros_alone (suc count) =
    sym (replicate_more count 48 ∙ ap (λ k. replicate k 48) (add-one count)) ∙ ap (λ ds. ds ++ (48 ∷ [])) (zeros_alone count)

one_more : (count n : ℕ) (acc : List ℕ) → hex_digits count (n / 16) ++ (hex_digit (n % 16) ∷ acc) ≡ hex_digits (suc count) n ++ acc
unfolding hex_digits
one_more count n acc = sym (append_assoc (hex_digits count (n / 16)) (hex_digit (n % 16) ∷ []) acc)

-- The last digit, and then those before it, if any.
by_test : (count k n : ℕ) (acc : List ℕ) (b : Bool) → eqb (n / 16) 0 ≡ b →
    ((n / 16 ≡ 0 → ⊥) → Front (suc count) n acc (digits_onto k 16 true (n / 16) (hex_digit (n % 16) ∷ acc))) →
    Front (suc count) n acc (cond b (hex_digit (n % 16) ∷ acc) (digits_onto k 16 true (n / 16) (hex_digit (n % 16) ∷ acc)))
by_test count k n acc true e f = record {
  zeros = count;
  many = omega arith;
  text =
      ap (λ ds. ds ++ (hex_digit (n % 16) ∷ acc)) (zeros_alone count ∙ ap (hex_digits count) (sym (eqb-true (n / 16) 0 e))) ∙
      one_more count n acc;
}
by_test count k n acc false e f = f (eqb-false (n / 16) 0 e)

grows : (count n : ℕ) (acc ds : List ℕ) → Front count (n / 16) (hex_digit (n % 16) ∷ acc) ds → Front (suc count) n acc ds
grows count n acc ds f = record {
  zeros = f.zeros;
  many = omega (arith, f.many);
  text = f.text ∙ one_more count n acc;
}

fronts : (count k n : ℕ) (acc : List ℕ) → count < k → n < 16 ^ suc count → Front (suc count) n acc (digits_onto k 16 true n acc)
fronts count zero n acc l h = absurd (omega arith)
fronts zero (suc k) n acc l h = by_test 0 k n acc (eqb (n / 16) 0) refl (λ some. absurd (some (omega arith)))
fronts (suc count) (suc k) n acc l h =
    by_test (suc count) k n acc (eqb (n / 16) 0) refl
    (λ some. grows (suc count) n acc _
    (fronts count k (n / 16) (hex_digit (n % 16) ∷ acc) (omega arith) (omega (arith, pow-suc 16 (suc count)))))

front : (n : ℕ) → n < 2 ^ 64 → Front 16 n [] (digits 16 true n)
unfolding digits
front n h = fronts 15 64 n [] (omega arith) (omega arith)

-- What `{:016X}` writes of a number.
pub sixteen : (n : ℕ) → n < 2 ^ 64 →
    padded_integral (format_spec 32 0 4 16 18446744073709551615) false [] (digits 16 true n) ≡ hex_digits 16 n
unfolding padded_integral char_count
sixteen n h =
    let f = front n h in
    let z : 16 - length (digits 16 true n) - 0 - 0 ≡ f.zeros = omega (arith, f.many) in
    ap (λ k. replicate k 48 ++ (digits 16 true n ++ [])) z ∙
    ap (λ ds. replicate f.zeros 48 ++ ds) (append-nil (digits 16 true n)) ∙ f.text ∙ append-nil (hex_digits 16 n)
