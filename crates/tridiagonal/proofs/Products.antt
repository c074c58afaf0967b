-- The Hermitian product and the rank-one update, one column on.
use Rattle.std.proofs.Common.{◌≡◌, ℕ, zero, suc, ◌+◌, ◌-◌, ◌*◌, ◌<◌, ◌≤◌, true, false, cond, List, [], ◌∷◌, ◌++◌, length, get_or, take, drop, sym, refl, ap, ◌∙◌, append_assoc, arith, length-append, length-drop, take-append-drop, length-take-le, drop-drop, take_at, drop_at}
use lib.ListN.{length-map}
use borrow.Rule.Slice.PartMut.{put_mid}
use Rattle.std.proofs.lemmas.Slice.{drop-put_mid}
use Rattle.scalar.specs.Ops.{Ops}
use Rattle.tridiagonal.specs.Blas.{zipped, axc_of, axcpy_of, axpy_of}
use Rattle.tridiagonal.specs.Hermitian.{row_sum, below_sum, first_sum, first_column, hegemv_from, hegemv_of, hegerc_of, hegerc_three_of}
use Rattle.tridiagonal.specs.Tables.{lower, put}
use Rattle.tridiagonal.proofs.Columns.{column_next, lower_more, put_more, Shaped}

pub length_zipped : {C : Type 0} (f : C → C → C) (xs ys : List C) → length (zipped f xs ys) ≡ length ys
length_zipped f [] ys = refl
length_zipped f (x ∷ xs) [] = refl
length_zipped f (x ∷ xs) (y ∷ ys) = ap suc (length_zipped f xs ys)

module _ {C R : Type 0} (o : Ops C R) where
  pub length_axpy : (a b : C) (xs ys : List C) → length xs ≡ length ys → length (axpy_of o a xs b ys) ≡ length ys
  unfolding axpy_of
  length_axpy a b xs ys e =
      elim (o.is_zero b) as (λ z. length (cond z (axc_of o a xs) (axcpy_of o a xs b ys)) ≡ length ys) [
        | true ↦ length-map xs (λ u. o.mul (o.mul a u) o.one) ∙ e
        | false ↦ length_zipped (λ u y. o.add (o.mul (o.mul a u) o.one) (o.mul b y)) xs ys
      ]

  module _ (a : C) where
    pub hegemv_start : (c xs p : List C) (cs : List (List C)) → p ≡ first_sum o a c xs ∷ drop 1 (first_column o a c xs) →
        take 1 p ++ hegemv_from o a cs (drop 1 xs) (drop 1 p) ≡ hegemv_of o a (c ∷ cs) xs
    unfolding hegemv_of
    hegemv_start c xs p cs e = ap (λ (l : List C). take 1 l ++ hegemv_from o a cs (drop 1 xs) (drop 1 l)) e

    hegemv_cons : (c xs p : List C) (cs : List (List C)) →
        hegemv_from o a (c ∷ cs) xs p ≡ row_sum o a c xs p ∷ hegemv_from o a cs (drop 1 xs) (below_sum o a c xs p)
    unfolding hegemv_from
    hegemv_cons c xs p cs = refl

    pub hegemv_more : (c x p q : List C) (cs : List (List C)) (j : ℕ) → j ≤ length p →
        q ≡ take j p ++ (row_sum o a c (drop j x) (drop j p) ∷ below_sum o a c (drop j x) (drop j p)) →
        take (j + 1) q ++ hegemv_from o a cs (drop (j + 1) x) (drop (j + 1) q) ≡ take j p ++ hegemv_from o a (c ∷ cs) (drop j x) (drop j p)
    hegemv_more c x p q cs j h e =
        let sum = row_sum o a c (drop j x) (drop j p) in
        let below = below_sum o a c (drop j x) (drop j p) in
        let cut : q ≡ (take j p ++ (sum ∷ [])) ++ below = e ∙ sym (append_assoc (take j p) (sum ∷ []) below) in
        let long : length (take j p ++ (sum ∷ [])) ≡ j + 1 =
        length-append (take j p) (sum ∷ []) ∙ ap (λ (i : ℕ). i + 1) (length-take-le j p h) in
        let front : take (j + 1) q ≡ take j p ++ (sum ∷ []) = ap (take (j + 1)) cut ∙ take_at (take j p ++ (sum ∷ [])) below (j + 1) long in
        let back : drop (j + 1) q ≡ below = ap (drop (j + 1)) cut ∙ drop_at (take j p ++ (sum ∷ [])) below (j + 1) long in
        ap (λ (l : List C). l ++ hegemv_from o a cs (drop (j + 1) x) (drop (j + 1) q)) front
        ∙ ap (λ (l : List C). (take j p ++ (sum ∷ [])) ++ hegemv_from o a cs (drop (j + 1) x) l) back
        ∙ ap (λ (l : List C). (take j p ++ (sum ∷ [])) ++ hegemv_from o a cs l below) (sym (drop-drop 1 j x))
        ∙ append_assoc (take j p) (sum ∷ []) (hegemv_from o a cs (drop 1 (drop j x)) below)
        ∙ ap (λ (l : List C). take j p ++ l) (sym (hegemv_cons c (drop j x) (drop j p) cs))

    pub hegemv_all : (xs p : List C) (j : ℕ) → take j p ++ hegemv_from o a [] xs (drop j p) ≡ p
    unfolding hegemv_from
    hegemv_all xs p j = take-append-drop j p

    pub shaped_hegerc : (m : ℕ) (xs ys : List C) (cs : List (List C)) → Shaped m cs → length xs ≡ m → Shaped m (hegerc_of o a xs ys cs)
    unfolding hegerc_of
    shaped_hegerc zero xs ys [] s h = s
    shaped_hegerc zero xs ys (c ∷ cs) s h = let no = ap length s in let bad : ⊥ = omega arith in absurd bad
    shaped_hegerc (suc m) xs ys [] s h = absurd s
    shaped_hegerc (suc m) xs ys (c ∷ cs) s h =
        let less : length (drop 1 xs) ≡ m = let d = length-drop 1 xs in omega arith in (
          length_axpy (o.mul a (o.conj (get_or ys 0 o.zero))) o.one xs c (h ∙ sym s.0) ∙ s.0,
          shaped_hegerc m (drop 1 xs) (drop 1 ys) cs s.1 less,
        )

  module _ (a d : C) where
    -- what the three updates make of a column
    abbrev pub column_of : List C → List C → List C → List C
    column_of xs ws c =
        axpy_of o (o.mul d (o.conj (get_or ws 0 o.zero))) ws o.one
        (axpy_of o (o.mul a (o.conj (get_or xs 0 o.zero))) ws o.one
        (axpy_of o (o.mul a (o.conj (get_or ws 0 o.zero))) xs o.one c))

    three_cons : (xs ws c : List C) (cs : List (List C)) →
        hegerc_three_of o a d xs ws (c ∷ cs) ≡ column_of xs ws c ∷ hegerc_three_of o a d (drop 1 xs) (drop 1 ws) cs
    unfolding hegerc_of
    three_cons xs ws c cs = refl

    length_column : (xs ws c : List C) (m : ℕ) → length c ≡ m → length xs ≡ m → length ws ≡ m → length (column_of xs ws c) ≡ m
    length_column xs ws c m e f h =
        let c1 = axpy_of o (o.mul a (o.conj (get_or ws 0 o.zero))) xs o.one c in
        let c2 = axpy_of o (o.mul a (o.conj (get_or xs 0 o.zero))) ws o.one c1 in
        let l1 : length c1 ≡ m = length_axpy (o.mul a (o.conj (get_or ws 0 o.zero))) o.one xs c (f ∙ sym e) ∙ e in
        let l2 : length c2 ≡ m = length_axpy (o.mul a (o.conj (get_or xs 0 o.zero))) o.one ws c1 (h ∙ sym l1) ∙ l1 in
        length_axpy (o.mul d (o.conj (get_or ws 0 o.zero))) o.one ws c2 (h ∙ sym l2) ∙ l2

    -- a column as it was written, where side and place are those of a later square, and the factors those of the code
    pub three_written : (n k j n' k' : ℕ) (t u xs ws : List C) (p q r : C) → n' ≡ n → k' ≡ k →
        p ≡ o.mul a (o.conj (get_or ws 0 o.zero)) → q ≡ o.mul a (o.conj (get_or xs 0 o.zero)) →
        r ≡ o.mul d (o.conj (get_or ws 0 o.zero)) →
        u ≡ put_mid (j * n' + (k' + j)) (j * n' + n' - (j * n' + (k' + j))) t
        (axpy_of o r ws o.one (axpy_of o q ws o.one (axpy_of o p xs o.one (take (n' - (k' + j)) (drop (j * n' + (k' + j)) t))))) →
        u ≡ put_mid (j * n + (k + j)) ((j + 1) * n - (j * n + (k + j))) t (column_of xs ws (take (n - (k + j)) (drop (j * n + (k + j)) t)))
    three_written n k j n' k' t u xs ws p q r en ek ep eq er write =
        let end : j * n' + n' ≡ (j + 1) * n = ap (λ (m : ℕ). j * m + m) en ∙ sym (column_next j n) in
        write
        ∙ (λ i. put_mid (j * en i + (ek i + j)) (end i - (j * en i + (ek i + j))) t
        (axpy_of o (er i) ws o.one (axpy_of o (eq i) ws o.one (axpy_of o (ep i) xs o.one
        (take (en i - (ek i + j)) (drop (j * en i + (ek i + j)) t))))))

    pub three_more : (n k m b e : ℕ) (t u c xs ws : List C) → k + m ≡ n → 0 < m → e ≡ b + n → e ≤ length t →
        length xs ≡ m → length ws ≡ m →
        c ≡ column_of xs ws (take (n - k) (drop (b + k) t)) →
        u ≡ put_mid (b + k) (e - (b + k)) t c →
        take e u ++ put n (k + 1) (m - 1) (hegerc_three_of o a d (drop 1 xs) (drop 1 ws) (lower n (k + 1) (m - 1) (drop e u))) (drop e u) ≡
        take b t ++ put n k m (hegerc_three_of o a d xs ws (lower n k m (drop b t))) (drop b t)
    three_more n k m b e t u c xs ws all some next held as_x as_w made write =
        let start : b + k ≤ length t = omega arith in
        let wide : n - k ≡ m = omega arith in
        let there : n - k ≤ length (drop (b + k) t) = let d = length-drop (b + k) t in omega arith in
        let old : length (take (n - k) (drop (b + k) t)) ≡ m = length-take-le (n - k) (drop (b + k) t) there ∙ wide in
        let long : length c ≡ m = ap length made ∙ length_column xs ws (take (n - k) (drop (b + k) t)) m old as_x as_w in
        let over : b + k + (e - (b + k)) ≤ e = omega arith in
        let part : length c ≡ e - (b + k) = omega arith in
        let back : drop e u ≡ drop e t = ap (drop e) write ∙ drop-put_mid (b + k) (e - (b + k)) t c e over start part in
        let left = hegerc_three_of o a d (drop 1 xs) (drop 1 ws) (lower n (k + 1) (m - 1) (drop e t)) in
        let cols : hegerc_three_of o a d xs ws (lower n k m (drop b t)) ≡ c ∷ left =
        ap (hegerc_three_of o a d xs ws) (lower_more n k m b e t all some next)
        ∙ three_cons xs ws (take (n - k) (drop (b + k) t)) (lower n (k + 1) (m - 1) (drop e t))
        ∙ ap (λ (l : List C). l ∷ left) (sym made) in
        ap (λ (l : List C). take e u ++ put n (k + 1) (m - 1) (hegerc_three_of o a d (drop 1 xs) (drop 1 ws) (lower n (k + 1) (m - 1) l)) (drop e u)) back
        ∙ ap (λ (l : List C). take e l ++ put n (k + 1) (m - 1) left (drop e l)) write
        ∙ put_more n k m b e t c left all some next held long
        ∙ ap (λ (l : List (List C)). take b t ++ put n k m l (drop b t)) (sym cols)
