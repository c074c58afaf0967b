-- The matrix Q, one entry or one column on.
use Rattle.std.proofs.Common.{◌≡◌, ℕ, zero, suc, ◌+◌, ◌-◌, ◌*◌, ◌/◌, ◌%◌, ◌<◌, ◌≤◌, cond, eqb, List, [], ◌∷◌, ◌++◌, length, get_or, take, drop, set, sym, refl, ap, ◌∙◌, ⊎_elim, append_assoc, zero-mul, suc-mul, zero-add, add-zero, add-one, arith, length-append, length-drop, length-take-le, drop-drop, take-add}
use borrow.Rule.Slice.PartMut.{put_mid}
use Rattle.std.proofs.lemmas.List.{drop-take, drop_more, drop_all, take_rest, take_more, take_more_set, get_or-append_right}
use Rattle.std.proofs.lemmas.Bool.{cases_lt}
use Rattle.std.proofs.Math.ListN.{get_or-append}
use Rattle.std.proofs.lemmas.Nat.{div-mul-add, mod-mul-add}
use Rattle.std.proofs.Math.Nat.{mod-eq_of_lt, mod-eq-sub-mod, div-eq_of_lt, add-div_right}
use Rattle.std.proofs.lemmas.Slice.{take-put_mid, drop-put_mid}
use Rattle.tridiagonal.specs.Assemble.{unit_from, identity_from, reflected_columns, reflected_from, assembled_from, matrix_q}
use Rattle.tridiagonal.specs.Blas.{dotc_of}
use Rattle.tridiagonal.specs.Householder.{Kind, reflected}
use Rattle.tridiagonal.specs.Tables.{lower}
use Rattle.tridiagonal.proofs.Columns.{column_next, lower_more}
use Rattle.tridiagonal.proofs.Lent.{end_written}
use Rattle.tridiagonal.proofs.Products.{length_axpy}

module _ {C R : Type 0} (K : Kind C R) where
  unit_cons : (j i m : ℕ) → unit_from K j i (suc m) ≡ cond (eqb i j) K.ops.one K.ops.zero ∷ unit_from K j (suc i) m
  unfolding unit_from
  unit_cons j i m = refl

  pub unit_none : (j i : ℕ) → unit_from K j i 0 ≡ []
  unfolding unit_from
  unit_none j i = refl

  pub length_unit : (j i m : ℕ) → length (unit_from K j i m) ≡ m
  length_unit j i zero = ap length (unit_none j i)
  length_unit j i (suc m) = ap length (unit_cons j i m) ∙ ap suc (length_unit j (suc i) m)

  unit_at : (j i m k : ℕ) (d : C) → k < m → get_or (unit_from K j i m) k d ≡ cond (eqb (i + k) j) K.ops.one K.ops.zero
  unit_at j i zero k d h = let no : ⊥ = omega arith in absurd no
  unit_at j i (suc m) zero d h =
      cc (unit_cons j i m, add-zero i)
  unit_at j i (suc m) (suc k) d h =
      let less : k < m = omega arith in
      let on : suc i + k ≡ i + suc k = omega arith in
      cc (unit_cons j i m, unit_at j (suc i) m k d less)

  identity_cons : (n j m : ℕ) → identity_from K n j (suc m) ≡ unit_from K j 0 n ++ identity_from K n (suc j) m
  unfolding identity_from
  identity_cons n j m = refl

  identity_none : (n j : ℕ) → identity_from K n j 0 ≡ []
  unfolding identity_from
  identity_none n j = refl

  pub length_identity : (n j m : ℕ) → length (identity_from K n j m) ≡ m * n
  length_identity n j zero = ap length (identity_none n j) ∙ sym (zero-mul n)
  length_identity n j (suc m) =
      let u = length_unit j 0 n in let r = length_identity n (suc j) m in let more = suc-mul m n in
      ap length (identity_cons n j m) ∙ length-append (unit_from K j 0 n) (identity_from K n (suc j) m) ∙ omega arith

  identity_at : (n j m k : ℕ) (d : C) → 0 < n → k < m * n →
      get_or (identity_from K n j m) k d ≡ cond (eqb (k % n) (j + k / n)) K.ops.one K.ops.zero
  identity_at n j zero k d some h = let z = zero-mul n in let no : ⊥ = omega arith in absurd no
  identity_at n j (suc m) k d some h =
      let long = length_unit j 0 n in
      let more = suc-mul m n in
      ⊎_elim
      (λ (low : k < n).
      let here : k < length (unit_from K j 0 n) = omega arith in
      let none : k / n ≡ 0 = div-eq_of_lt low in
      let at : j ≡ j + k / n = omega arith in
      cc (
        identity_cons n j m,
        get_or-append (unit_from K j 0 n) (identity_from K n (suc j) m) d k here,
        unit_at j 0 n k d low,
        zero-add k,
        mod-eq_of_lt low,
      ))
      (λ (high : n ≤ k).
      let rest : k - n < m * n = omega arith in
      let whole : k ≡ k - n + n = omega arith in
      let one_more : k / n ≡ (k - n) / n + 1 = ap (λ (i : ℕ). i / n) whole ∙ add-div_right (k - n) some in
      let at : suc j + (k - n) / n ≡ j + k / n = omega arith in
      cc (
        identity_cons n j m,
        get_or-append_right (unit_from K j 0 n) (identity_from K n (suc j) m) n k d long high,
        identity_at n (suc j) m (k - n) d some rest,
        mod-eq-sub-mod high,
      ))
      (cases_lt k n)

  -- The first k entries are written, and now the next.
  identity_more : (n k : ℕ) (q : List C) (v : C) → 0 < n → k < n * n → k < length q →
      v ≡ cond (eqb (k % n) (k / n)) K.ops.one K.ops.zero → take k q ≡ take k (identity_from K n 0 n) →
      take (k + 1) (set q k v) ≡ take (k + 1) (identity_from K n 0 n)
  identity_more n k q v some h within is so_far =
      let there : k < length (identity_from K n 0 n) = let long = length_identity n 0 n in omega arith in
      cc (identity_at n 0 n k v some h, zero-add (k / n), take_more_set q k v within, take_more (identity_from K n 0 n) k v there)

  -- the same, where the place is counted by row and column
  pub identity_counted : (n k row column : ℕ) (q : List C) (v : C) → 0 < n → k < n * n → k < length q →
      row < n → k ≡ column * n + row → v ≡ cond (eqb row column) K.ops.one K.ops.zero → take k q ≡ take k (identity_from K n 0 n) →
      take (k + 1) (set q k v) ≡ take (k + 1) (identity_from K n 0 n)
  identity_counted n k row column q v some h within inside place is so_far =
      let r : k % n ≡ row = ap (λ (x : ℕ). x % n) place ∙ mod-mul-add column n row inside in
      let d : k / n ≡ column = ap (λ (x : ℕ). x / n) place ∙ div-mul-add column n row inside in
      identity_more n k q v some h within (is ∙ sym (λ j. cond (eqb (r j) (d j)) K.ops.one K.ops.zero)) so_far

  length_reflected : (axis ys : List C) (sign : C) → length axis ≡ length ys → length (reflected K axis sign ys) ≡ length ys
  unfolding reflected
  length_reflected axis ys sign e =
      length_axpy K.ops
      (K.ops.mul (K.ops.sub (dotc_of K.ops axis ys) K.ops.zero) (K.ops.scale sign K.real.minus_two)) sign axis ys e

  module _ (n r : ℕ) (axis : List C) (sign : C) (rows : r ≤ n) (as_axis : length axis ≡ n - r) where
    reflected_cons : (m : ℕ) (q : List C) → reflected_columns K n r axis sign (suc m) q ≡
        take r q ++ (reflected K axis sign (take (n - r) (drop r q)) ++ reflected_columns K n r axis sign m (drop n q))
    unfolding reflected_columns
    reflected_cons m q = refl

    pub reflected_none : (q : List C) → reflected_columns K n r axis sign 0 q ≡ q
    unfolding reflected_columns
    reflected_none q = refl

    pub reflected_more : (j m b e : ℕ) (q u : List C) → j < m → e ≡ b + n → e ≤ length q →
        u ≡ put_mid (b + r) (b + n - (b + r)) q (reflected K axis sign (take (n - r) (drop (b + r) q))) →
        take e u ++ reflected_columns K n r axis sign (m - (j + 1)) (drop e u) ≡
        take b q ++ reflected_columns K n r axis sign (m - j) (drop b q)
    reflected_more j m b e q u h next held write =
        let count : m - j ≡ suc (m - (j + 1)) = omega arith in
        let start : b + r ≤ length q = omega arith in
        let there : n - r ≤ length (drop (b + r) q) = let d = length-drop (b + r) q in omega arith in
        let old = length-take-le (n - r) (drop (b + r) q) there in
        let c = reflected K axis sign (take (n - r) (drop (b + r) q)) in
        let long : length c ≡ n - r = length_reflected axis (take (n - r) (drop (b + r) q)) sign (as_axis ∙ sym old) ∙ old in
        let end : e ≡ b + r + length c = omega arith in
        let over : b + r + (b + n - (b + r)) ≤ e = omega arith in
        let part : length c ≡ b + n - (b + r) = omega arith in
        let rest = reflected_columns K n r axis sign (m - (j + 1)) (drop n (drop b q)) in
        let grouped : ((take b q ++ take r (drop b q)) ++ c) ++ rest ≡ take b q ++ (take r (drop b q) ++ (c ++ rest)) = simp append_assoc in
        cc (
          take-put_mid (b + r) (b + n - (b + r)) q c e end start,
          drop-put_mid (b + r) (b + n - (b + r)) q c e over start part,
          take-add b r q,
          drop-drop n b q,
          drop-drop r b q,
          grouped,
          reflected_cons (m - (j + 1)) (drop b q),
        )

  assembled_cons : (n i : ℕ) (c : List C) (cs : List (List C)) (s : C) (signs : List C) →
      assembled_from K n i (c ∷ cs) (s ∷ signs) ≡ reflected_from K n i (drop 1 c) (K.ops.sign s) (assembled_from K n (suc i) cs signs)
  unfolding assembled_from
  assembled_cons n i c cs s signs = refl

  -- Where no sign is left nothing is reflected.
  no_signs : (n i : ℕ) (cs : List (List C)) → assembled_from K n i cs [] ≡ identity_from K n 0 n
  unfolding assembled_from
  no_signs n i [] = refl
  no_signs n i (c ∷ cs) = refl

  pub assembled_none : (n i : ℕ) (cs : List (List C)) (signs : List C) → length signs ≤ i →
      assembled_from K n i cs (drop i signs) ≡ identity_from K n 0 n
  assembled_none n i cs signs h = ap (assembled_from K n i cs) (drop_all i signs h) ∙ no_signs n i cs

  -- Column p is reflected after those from p + 1 on: its axis lies in the table T, its sign among the signs.
  pub assembled_more : (n p : ℕ) (T signs q x y u axis : List C) (s sign : C) → p + 1 < n → p < length signs →
      s ≡ get_or signs p s → sign ≡ K.ops.sign s → axis ≡ take (n - (p + 1)) (drop (p * n + (p + 1)) T) →
      x ≡ take (length q - p * n) (drop (p * n) q) → y ≡ reflected_columns K n (p + 1) axis sign (n - p) x →
      u ≡ put_mid (p * n) (length q - p * n) q y →
      q ≡ assembled_from K n (p + 1) (lower n (p + 1) (n - (p + 1)) (drop ((p + 1) * n) T)) (drop (p + 1) signs) →
      u ≡ assembled_from K n p (lower n p (n - p) (drop (p * n) T)) (drop p signs)
  assembled_more n p T signs q x y u axis s sign some has is_s is_sign is_axis is_x is_y is_u is_q =
      let all : p + (n - p) ≡ n = omega arith in
      let one : 0 < n - p = omega arith in
      let count : n - p - 1 ≡ n - (p + 1) = omega arith in
      let wide : n - p ≡ 1 + (n - (p + 1)) = omega arith in
      let place : p * n + p + 1 ≡ p * n + (p + 1) = omega arith in
      let c = take (n - p) (drop (p * n + p) T) in
      let cs = lower n (p + 1) (n - (p + 1)) (drop ((p + 1) * n) T) in
      let below : drop 1 c ≡ axis =
      cc (drop-take 1 (n - (p + 1)) (drop (p * n + p) T), drop-drop 1 (p * n + p) T) in
      let columns : lower n p (n - p) (drop (p * n) T) ≡ c ∷ cs =
      cc (lower_more n p (n - p) (p * n) ((p + 1) * n) T all one (column_next p n), count) in
      let left : drop p signs ≡ s ∷ drop (p + 1) signs = cc (drop_more signs p s has) in
      let last : assembled_from K n (suc p) cs (drop (p + 1) signs) ≡ q = cc (add-one p) in
      let lent : x ≡ drop (p * n) q = cc (take_rest q (p * n)) in
      cc (end_written (p * n) q y, lent, below, columns, left, last, add-one p, assembled_cons n p c cs s (drop (p + 1) signs))

  -- With no column left it is Q.
  pub assembled_all : (n i : ℕ) (T signs : List C) → i ≡ 0 →
      assembled_from K n i (lower n i (n - i) (drop (i * n) T)) (drop i signs) ≡ matrix_q K n (lower n 0 n T) signs
  unfolding matrix_q
  assembled_all n i T signs e =
      let whole : n - 0 ≡ n = omega arith in
      cc (whole, zero-mul n)
