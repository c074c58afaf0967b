-- The dot product, one chunk of eight entries or one entry on.
use Rattle.std.proofs.Common.{◌≡◌, ℕ, suc, ◌+◌, ◌-◌, ◌*◌, ◌<◌, ◌≤◌, ◌⊎◌, List, [], ◌∷◌, take, drop, refl, ap, ◌∙◌, inl, inr, arith, drop-drop}
use Rattle.scalar.specs.Ops.{Ops}
use Rattle.tridiagonal.specs.declared.sums.Sums.{Sums}
use Rattle.tridiagonal.specs.Blas.{plus_product, eight_more, running_sums, plus_products}

module _ {C R : Type 0} (o : Ops C R) where
  running_chunk : (chunks : ℕ) (s : Sums C) (xs ys : List C) →
      running_sums o (suc chunks) s xs ys ≡ running_sums o chunks (eight_more o s (take 8 xs) (take 8 ys)) (drop 8 xs) (drop 8 ys)
  unfolding running_sums
  running_chunk chunks s xs ys = refl

  running_none : (s : Sums C) (xs ys : List C) → running_sums o 0 s xs ys ≡ s
  unfolding running_sums
  running_none s xs ys = refl

  pub running_more : (chunks k : ℕ) (s t : Sums C) (xs ys : List C) → k < chunks →
      t ≡ eight_more o s (take 8 (drop (8 * k) xs)) (take 8 (drop (8 * k) ys)) →
      running_sums o (chunks - (k + 1)) t (drop (8 * (k + 1)) xs) (drop (8 * (k + 1)) ys) ≡
      running_sums o (chunks - k) s (drop (8 * k) xs) (drop (8 * k) ys)
  running_more chunks k s t xs ys h is =
      let count : chunks - k ≡ suc (chunks - (k + 1)) = omega arith in
      let next : 8 * (k + 1) ≡ 8 * k + 8 = omega arith in
      let x = drop-drop 8 (8 * k) xs in
      let y = drop-drop 8 (8 * k) ys in
      let chunk = running_chunk (chunks - (k + 1)) s (drop (8 * k) xs) (drop (8 * k) ys) in cc

  pub running_end : (chunks k : ℕ) (s : Sums C) (xs ys : List C) → chunks ≤ k → running_sums o (chunks - k) s xs ys ≡ s
  running_end chunks k s xs ys h =
      let none : chunks - k ≡ 0 = omega arith in
      ap (λ (m : ℕ). running_sums o m s xs ys) none ∙ running_none s xs ys

  pub products_more : (sum next x y : C) (xs ys rx ry : List C) → xs ≡ x ∷ rx → ys ≡ y ∷ ry → next ≡ plus_product o sum x y →
      plus_products o next rx ry ≡ plus_products o sum xs ys
  products_more sum next x y xs ys rx ry is_x is_y is = rw (is_x, is_y, is)

  pub products_end : (sum : C) (xs ys : List C) → (xs ≡ []) ⊎ (ys ≡ []) → plus_products o sum xs ys ≡ sum
  products_end sum [] ys h = refl
  products_end sum (x ∷ xs) [] h = refl
  products_end sum (x ∷ xs) (y ∷ ys) (inl e) = cc
  products_end sum (x ∷ xs) (y ∷ ys) (inr e) = cc
