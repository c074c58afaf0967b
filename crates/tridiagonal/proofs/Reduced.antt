-- The reduction, one step on.
use Rattle.std.proofs.Common.{◌≡◌, ℕ, suc, ◌+◌, ◌-◌, ◌*◌, ◌<◌, ◌≤◌, List, [], ◌∷◌, ◌++◌, length, take, drop, set, sym, refl, ap, ◌∙◌, append_assoc, suc-mul, zero-add, add-one, arith, length-append, length-drop, take-append-drop, length-take-le, take_at, drop_at}
use borrow.Rule.Slice.PartMut.{put_mid}
use Rattle.std.proofs.lemmas.List.{take_rest}
use Rattle.tridiagonal.specs.Householder.{Kind, axis_norm}
use Rattle.tridiagonal.specs.Tables.{lower, put}
use Rattle.tridiagonal.specs.Tridiagonal.{stepped_column, stepped_rest, reduced_columns, reduced_norms}
use Rattle.tridiagonal.proofs.Columns.{Shaped, shaped_lower, lower_more, put_cons, put_put, lower_put}
use Rattle.tridiagonal.proofs.Lent.{end_written, first_of_part_set}
use Rattle.tridiagonal.proofs.Steps.{put_lower}
use Rattle.tridiagonal.proofs.Writes.{written}
use Rattle.tridiagonal.proofs.Shapes.{length_stepped_column, shaped_rest, shaped_reduced}

module _ {C R : Type 0} (K : Kind C R) where
  reduced_cons : (k : ℕ) (c : List C) (cs : List (List C)) →
      reduced_columns K (suc k) (c ∷ cs) ≡ stepped_column K c ∷ reduced_columns K k (stepped_rest K c cs)
  unfolding reduced_columns
  reduced_cons k c cs = refl

  norms_cons : (k : ℕ) (c : List C) (cs : List (List C)) →
      reduced_norms K (suc k) (c ∷ cs) ≡ axis_norm K (drop 1 c) ∷ reduced_norms K k (stepped_rest K c cs)
  unfolding reduced_norms
  norms_cons k c cs = refl

  pub reduced_none : (cs : List (List C)) → reduced_columns K 0 cs ≡ cs
  unfolding reduced_columns
  reduced_none cs = refl

  pub norms_none : (cs : List (List C)) → reduced_norms K 0 cs ≡ []
  unfolding reduced_norms
  norms_none cs = refl

  -- T is the table before the step at column i, which begins at b, and U the table after it; column i + 1 begins at e.
  module _ (n i b e : ℕ) (T U : List C) (some : i + 1 < n) (next : e ≡ b + n) (held : b + (n - i) * n ≤ length T)
      (write : U ≡ take b T ++ put n i (n - i) (stepped_column K (take (n - i) (drop i (drop b T))) ∷
      stepped_rest K (take (n - i) (drop i (drop b T))) (lower n (i + 1) (n - i - 1) (drop n (drop b T)))) (drop b T)) where
    abbrev first : List C
    first = take (n - i) (drop i (drop b T))

    abbrev others : List (List C)
    others = lower n (i + 1) (n - i - 1) (drop n (drop b T))

    abbrev left : List C
    left = put n (i + 1) (n - i - 1) (stepped_rest K first others) (drop n (drop b T))

    rows : (n - i) * n ≡ (n - i - 1) * n + n
    rows = let count : n - i ≡ suc (n - i - 1) = omega arith in ap (λ (m : ℕ). m * n) count ∙ suc-mul (n - i - 1) n

    all_rows : i + 1 + (n - i - 1) ≡ n
    all_rows = omega arith

    rest_held : (n - i - 1) * n ≤ length (drop n (drop b T))
    rest_held =
        let r = rows in let d = length-drop b T in let f = length-drop n (drop b T) in omega arith

    long_first : length first ≡ suc (n - i - 1)
    long_first =
        let r = rows in let d = length-drop b T in let f = length-drop i (drop b T) in
        let there : n - i ≤ length (drop i (drop b T)) = omega arith in
        length-take-le (n - i) (drop i (drop b T)) there ∙ omega arith

    shape : Shaped (n - i - 1) (stepped_rest K first others)
    shape = shaped_rest K (n - i - 1) first others long_first (shaped_lower n (i + 1) (n - i - 1) (drop n (drop b T)) all_rows rest_held)

    -- the table after the step, cut where the next column begins
    cut : U ≡ (take b T ++ (take i (drop b T) ++ stepped_column K first)) ++ left
    cut =
        let count : n - i ≡ suc (n - i - 1) = omega arith in
        let grouped : (take b T ++ (take i (drop b T) ++ stepped_column K first)) ++ left ≡
        take b T ++ (take i (drop b T) ++ (stepped_column K first ++ left)) = simp append_assoc in
        cc (write, put_cons n i (n - i - 1) (stepped_column K first) (stepped_rest K first others) (drop b T), add-one i, grouped)

    long_front : length (take b T ++ (take i (drop b T) ++ stepped_column K first)) ≡ e
    long_front =
        let r = rows in let d = length-drop b T in
        let x = length-take-le b T (omega arith) in
        let y = length-take-le i (drop b T) (omega arith) in
        let z = length_stepped_column K (n - i - 1) first long_first in
        let f = length-append (take i (drop b T)) (stepped_column K first) in
        length-append (take b T) (take i (drop b T) ++ stepped_column K first) ∙ omega arith

    front : take e U ≡ take b T ++ (take i (drop b T) ++ stepped_column K first)
    front = ap (take e) cut ∙ take_at (take b T ++ (take i (drop b T) ++ stepped_column K first)) left e long_front

    back : drop e U ≡ left
    back = ap (drop e) cut ∙ drop_at (take b T ++ (take i (drop b T) ++ stepped_column K first)) left e long_front

    -- the lower columns before the step, and after it
    before : lower n i (n - i) (drop b T) ≡ first ∷ others
    before =
        let all : i + (n - i) ≡ n = omega arith in
        let one : 0 < n - i = omega arith in
        cc (lower_more n i (n - i) 0 n (drop b T) all one (omega arith), zero-add i)

    after : lower n (i + 1) (n - i - 1) (drop e U) ≡ stepped_rest K first others
    after =
        ap (lower n (i + 1) (n - i - 1)) back
        ∙ lower_put n (i + 1) (n - i - 1) (stepped_rest K first others) (drop n (drop b T)) all_rows rest_held shape

    pub reduced_more : (k : ℕ) →
        take e U ++ put n (i + 1) (n - i - 1) (reduced_columns K k (lower n (i + 1) (n - i - 1) (drop e U))) (drop e U) ≡
        take b T ++ put n i (n - i) (reduced_columns K (suc k) (lower n i (n - i) (drop b T))) (drop b T)
    reduced_more k =
        let count : n - i ≡ suc (n - i - 1) = omega arith in
        let Z = reduced_columns K k (stepped_rest K first others) in
        let put_over = put_put n (i + 1) (n - i - 1) (stepped_rest K first others) Z (drop n (drop b T)) all_rows rest_held shape
        (shaped_reduced K k (n - i - 1) (stepped_rest K first others) shape) in
        let rest = put n (i + 1) (n - i - 1) Z (drop n (drop b T)) in
        let grouped : (take b T ++ (take i (drop b T) ++ stepped_column K first)) ++ rest ≡
        take b T ++ (take i (drop b T) ++ (stepped_column K first ++ rest)) = simp append_assoc in
        cc (
          before,
          after,
          back,
          front,
          put_over,
          grouped,
          add-one i,
          reduced_cons k first others,
          put_cons n i (n - i - 1) (stepped_column K first) Z (drop b T),
        )

    pub norms_more : (k : ℕ) (norm : C) → norm ≡ axis_norm K (drop 1 first) →
        norm ∷ reduced_norms K k (lower n (i + 1) (n - i - 1) (drop e U)) ≡ reduced_norms K (suc k) (lower n i (n - i) (drop b T))
    norms_more k norm is =
        cc (before, after, norms_cons k first others)

-- The same, as the loop has it: the step was given the part of the table from b on, and left t there.
module _ {C R : Type 0} (K : Kind C R) (n i b e k k' r : ℕ) (T t : List C) (some : i + 1 < n) (next : e ≡ b + n)
    (held : b + (n - i) * n ≤ length T) (steps : k' ≡ suc k) (rest : r ≡ n - i - 1)
    (made : t ≡ put n i (n - i) (stepped_column K (take (n - i) (drop i (take (length T - b) (drop b T)))) ∷
    stepped_rest K (take (n - i) (drop i (take (length T - b) (drop b T))))
    (lower n (i + 1) (n - i - 1) (drop n (take (length T - b) (drop b T))))) (take (length T - b) (drop b T))) where
  abbrev after_step : List C
  after_step = put_mid b (length T - b) T t

  write : after_step ≡ take b T ++ put n i (n - i) (stepped_column K (take (n - i) (drop i (drop b T))) ∷
      stepped_rest K (take (n - i) (drop i (drop b T))) (lower n (i + 1) (n - i - 1) (drop n (drop b T)))) (drop b T)
  write =
      cc (end_written b T t, made, take_rest T b)

  pub table_step :
      take e after_step ++ put n (i + 1) r (reduced_columns K k (lower n (i + 1) r (drop e after_step))) (drop e after_step) ≡
      take b T ++ put n i (n - i) (reduced_columns K k' (lower n i (n - i) (drop b T))) (drop b T)
  table_step =
      cc (rest, steps, reduced_more K n i b e T after_step some next held write k)

  pub norms_step : (signs axis : List C) (norm : C) → i < length signs →
      length axis ≡ length (take (length signs - i) (drop i signs)) →
      norm ≡ axis_norm K (drop 1 (take (n - i) (drop i (take (length T - b) (drop b T))))) →
      take (i + 1) (set (put_mid i (length signs - i) signs axis) i norm) ++ reduced_norms K k (lower n (i + 1) r (drop e after_step)) ≡
      take i signs ++ reduced_norms K k' (lower n i (n - i) (drop b T))
  norms_step signs axis norm within same is =
      let is' : norm ≡ axis_norm K (drop 1 (take (n - i) (drop i (drop b T)))) = cc (is, take_rest T b) in
      cc (
        rest,
        steps,
        first_of_part_set i signs axis norm within same,
        norms_more K n i b e T after_step some next held write k norm is',
        append_assoc (take i signs) (norm ∷ []) (reduced_norms K k (lower n (i + 1) (n - i - 1) (drop e after_step))),
      )

-- At the end no step is left.
module _ {C R : Type 0} (K : Kind C R) (n i b k m : ℕ) (none : k ≡ 0) (all : i + m ≡ n) (T : List C) where
  pub table_end : T ≡ take b T ++ put n i m (reduced_columns K k (lower n i m (drop b T))) (drop b T)
  table_end =
      cc (none, take-append-drop b T, put_lower n i m (drop b T) all, reduced_none K (lower n i m (drop b T)))

  pub norms_end : (signs : List C) → length signs ≤ i → signs ≡ take i signs ++ reduced_norms K k (lower n i m (drop b T))
  norms_end signs full =
      sym (written signs (reduced_norms K k (lower n i m (drop b T))) i full
      (ap (λ (j : ℕ). reduced_norms K j (lower n i m (drop b T))) none ∙ norms_none K (lower n i m (drop b T))))
