-- The lower columns of a table, one column at a time.
use Rattle.std.proofs.Common.{◌≡◌, ℕ, zero, suc, ◌+◌, ◌-◌, ◌*◌, ◌<◌, ◌≤◌, List, [], ◌∷◌, ◌++◌, length, take, drop, sym, refl, ap, ◌∙◌, append_assoc, mul-le-mul_right, suc-mul, add-mul, add-one, arith, length-append, length-drop, length-take-le, drop-drop, take_at, take-add, drop_at}
use borrow.Rule.Slice.PartMut.{put_mid}
use Rattle.std.proofs.lemmas.Slice.{take-put_mid, drop-put_mid}
use Rattle.tridiagonal.specs.Tables.{lower, put}

-- Column j of the m columns of n rows lies within them.
pub column_held : (j m n : ℕ) → j < m → j * n + n ≤ m * n
column_held j m n h =
    let up : suc j ≤ m = omega arith in
    let e = suc-mul j n in
    let le = mul-le-mul_right n up in omega arith

pub column_next : (j n : ℕ) → (j + 1) * n ≡ j * n + n
column_next j n = ap (λ (i : ℕ). i * n) (add-one j) ∙ suc-mul j n

module _ {C : Type 0} where
  pub lower_cons : (n k m : ℕ) (t : List C) → lower n k (suc m) t ≡ take (suc m) (drop k t) ∷ lower n (suc k) m (drop n t)
  unfolding lower
  lower_cons n k m t = refl

  pub lower_none : (n k : ℕ) (t : List C) → lower n k 0 t ≡ []
  unfolding lower
  lower_none n k t = refl

  pub put_cons : (n k m : ℕ) (c : List C) (cs : List (List C)) (t : List C) →
      put n k (suc m) (c ∷ cs) t ≡ take k t ++ (c ++ put n (suc k) m cs (drop n t))
  unfolding put
  put_cons n k m c cs t = refl

  pub put_none : (n k : ℕ) (cs : List (List C)) (t : List C) → put n k 0 cs t ≡ t
  unfolding put
  put_none n k cs t = refl

  -- The first lower column of what begins at b, and the others.
  pub lower_more : (n k m b e : ℕ) (t : List C) → k + m ≡ n → 0 < m → e ≡ b + n →
      lower n k m (drop b t) ≡ take (n - k) (drop (b + k) t) ∷ lower n (k + 1) (m - 1) (drop e t)
  lower_more n k m b e t all some next =
      let count : m ≡ suc (m - 1) = omega arith in
      let wide : m ≡ n - k = omega arith in
      cc (lower_cons n k (m - 1) (drop b t), drop-drop k b t, drop-drop n b t, add-one k)

  -- The first lower column, of what begins at b, is written in place: the others are left to write.
  pub put_more : (n k m b e : ℕ) (t c : List C) (cs : List (List C)) → k + m ≡ n → 0 < m → e ≡ b + n → e ≤ length t → length c ≡ m →
      take e (put_mid (b + k) (e - (b + k)) t c) ++ put n (k + 1) (m - 1) cs (drop e (put_mid (b + k) (e - (b + k)) t c)) ≡
      take b t ++ put n k m (c ∷ cs) (drop b t)
  put_more n k m b e t c cs all some next held long =
      let count : m ≡ suc (m - 1) = omega arith in
      let start : b + k ≤ length t = omega arith in
      let end : e ≡ b + k + length c = omega arith in
      let over : b + k + (e - (b + k)) ≤ e = omega arith in
      let part : length c ≡ e - (b + k) = omega arith in
      let front = take-put_mid (b + k) (e - (b + k)) t c e end start in
      let back = drop-put_mid (b + k) (e - (b + k)) t c e over start part in
      let rest = put n (suc k) (m - 1) cs (drop n (drop b t)) in
      let grouped : ((take b t ++ take k (drop b t)) ++ c) ++ rest ≡ take b t ++ (take k (drop b t) ++ (c ++ rest)) = simp append_assoc in
      cc (front, back, take-add b k t, drop-drop n b t, put_cons n k (m - 1) c cs (drop b t), add-one k, grouped)

  -- m columns, of m entries and then of one less each
  abbrev pub Shaped : ℕ → List (List C) → Type 0
  Shaped zero cs = cs ≡ []
  Shaped (suc m) [] = ⊥
  Shaped (suc m) (c ∷ cs) = (length c ≡ suc m) × Shaped m cs

  pub shaped_lower : (n k m : ℕ) (t : List C) → k + m ≡ n → m * n ≤ length t → Shaped m (lower n k m t)
  shaped_lower n k zero t all held = lower_none n k t
  shaped_lower n k (suc m) t all held =
      let more = suc-mul m n in
      let left : m * n ≤ length (drop n t) = let d = length-drop n t in omega arith in
      let on : suc k + m ≡ n = omega arith in
      let enough : suc m ≤ length (drop k t) = let d = length-drop k t in omega arith in
      rw (lower_cons n k m t) (length-take-le (suc m) (drop k t) enough, shaped_lower n (suc k) m (drop n t) on left)

  -- What was put is read.
  pub lower_put : (n k m : ℕ) (cs : List (List C)) (t : List C) → k + m ≡ n → m * n ≤ length t → Shaped m cs →
      lower n k m (put n k m cs t) ≡ cs
  lower_put n k zero cs t all held shape = lower_none n k _ ∙ sym shape
  lower_put n k (suc m) [] t all held shape = absurd shape
  lower_put n k (suc m) (c ∷ cs) t all held shape =
      let more = suc-mul m n in
      let left : m * n ≤ length (drop n t) = let d = length-drop n t in omega arith in
      let on : suc k + m ≡ n = omega arith in
      let start : k ≤ length t = omega arith in
      let rest = put n (suc k) m cs (drop n t) in
      let front = length-take-le k t start in
      let both : length (take k t ++ c) ≡ n = length-append (take k t) c ∙ (let e = shape.0 in omega arith) in
      cc (
        put_cons n k m c cs t,
        lower_cons n k m (take k t ++ (c ++ rest)),
        drop_at (take k t) (c ++ rest) k front,
        take_at c rest (suc m) shape.0,
        append_assoc (take k t) c rest,
        drop_at (take k t ++ c) rest n both,
        lower_put n (suc k) m cs (drop n t) on left shape.1,
      )

  -- Only what is put last stays.
  pub put_put : (n k m : ℕ) (cs ds : List (List C)) (t : List C) → k + m ≡ n → m * n ≤ length t → Shaped m cs → Shaped m ds →
      put n k m ds (put n k m cs t) ≡ put n k m ds t
  put_put n k zero cs ds t all held shape shape' = put_none n k ds _ ∙ put_none n k cs t ∙ sym (put_none n k ds t)
  put_put n k (suc m) [] ds t all held shape shape' = absurd shape
  put_put n k (suc m) (c ∷ cs) [] t all held shape shape' = absurd shape'
  put_put n k (suc m) (c ∷ cs) (d ∷ ds) t all held shape shape' =
      let more = suc-mul m n in
      let left : m * n ≤ length (drop n t) = let e = length-drop n t in omega arith in
      let on : suc k + m ≡ n = omega arith in
      let start : k ≤ length t = omega arith in
      let rest = put n (suc k) m cs (drop n t) in
      let front = length-take-le k t start in
      let both : length (take k t ++ c) ≡ n = length-append (take k t) c ∙ (let e = shape.0 in omega arith) in
      cc (
        put_cons n k m c cs t,
        put_cons n k m d ds (take k t ++ (c ++ rest)),
        put_cons n k m d ds t,
        take_at (take k t) (c ++ rest) k front,
        append_assoc (take k t) c rest,
        drop_at (take k t ++ c) rest n both,
        put_put n (suc k) m cs ds (drop n t) on left shape.1 shape'.1,
      )

-- i columns of n rows, and the n - i others
pub columns_split : (i n : ℕ) → i ≤ n → i * n + (n - i) * n ≡ n * n
columns_split i n h = let whole : i + (n - i) ≡ n = omega arith in sym (add-mul i (n - i) n) ∙ ap (λ (m : ℕ). m * n) whole
