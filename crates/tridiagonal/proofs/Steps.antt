-- One step of the reduction, on a table that begins at the step's column.
use Rattle.std.proofs.Common.{◌≡◌, ℕ, zero, suc, ◌+◌, ◌-◌, ◌<◌, ◌≤◌, Bool, true, false, cond, List, ◌∷◌, ◌++◌, length, take, drop, sym, ◌∙◌, ⊎_elim, append_assoc, add-one, arith, take-append-drop, take-take, drop-drop, take-add}
use borrow.Rule.Slice.PartMut.{put_mid}
use Rattle.std.proofs.lemmas.List.{drop-take, take_rest}
use Rattle.std.proofs.lemmas.Slice.{take-put_mid, drop-put_mid, between-put_mid}
use Rattle.std.proofs.lemmas.Bool.{cases_Bool, cond-true, cond-false}
use Rattle.tridiagonal.specs.Blas.{dotc_of}
use Rattle.tridiagonal.specs.Householder.{Kind, axis_of, axis_reflects}
use Rattle.tridiagonal.specs.Hermitian.{hegemv_of, hegerc_three_of}
use Rattle.tridiagonal.specs.Tables.{lower, put}
use Rattle.tridiagonal.specs.Tridiagonal.{two, minus_one, updated, stepped_column, stepped_rest}
use Rattle.tridiagonal.proofs.Columns.{lower_cons, put_cons, put_none}
use Rattle.tridiagonal.proofs.Lent.{end_written}

module _ {C R : Type 0} (K : Kind C R) where
  -- The three updates of a step, from what the code hands to them.
  pub three_updates_put : (n k m : ℕ) (t t1 axis p : List C) (a b d : C) →
      a ≡ two K → b ≡ minus_one K → p ≡ hegemv_of K.ops a (lower n k m t) axis → d ≡ K.ops.mul (dotc_of K.ops axis p) a →
      t1 ≡ put n k m (hegerc_three_of K.ops b d p axis (lower n k m t)) t →
      t1 ≡ put n k m (updated K axis (lower n k m t)) t
  unfolding updated
  three_updates_put n k m t t1 axis p a b d is_two is_less is_p is_d e = cc

-- A table's own lower columns put over it change nothing.
pub put_lower : {C : Type 0} (n k m : ℕ) (t : List C) → k + m ≡ n → put n k m (lower n k m t) t ≡ t
put_lower n k zero t all = put_none n k _ t
put_lower {C} n k (suc m) t all =
    let on : suc k + m ≡ n = omega arith in
    cc (
      lower_cons n k m t,
      put_cons n k m (take (suc m) (drop k t)) (lower n (suc k) m (drop n t)) t,
      put_lower n (suc k) m (drop n t) on,
      all,
      drop-drop (suc m) k t,
      take-append-drop (suc m) (drop k t),
      take-append-drop k t,
    )

module _ {C R : Type 0} (K : Kind C R) (n i : ℕ) (t : List C) (some : i + 1 < n) (wide : n ≤ length t) where
  -- what the first lower column has below its diagonal entry
  pub below_part : drop 1 (take (n - i) (drop i t)) ≡ take (n - (i + 1)) (drop (i + 1) t)
  below_part =
      let wide' : n - i ≡ 1 + (n - (i + 1)) = omega arith in
      cc (drop-take 1 (n - (i + 1)) (drop i t), drop-drop 1 i t)

  pub past_axis : (ax : List C) → length ax ≡ n - (i + 1) → drop n (put_mid (i + 1) (n - (i + 1)) t ax) ≡ drop n t
  past_axis ax long =
      let over : i + 1 + (n - (i + 1)) ≤ n = omega arith in
      let start : i + 1 ≤ length t = omega arith in
      drop-put_mid (i + 1) (n - (i + 1)) t ax n over start long

  -- The axis stands in the first column, and the square after it is u.
  pub stepped_is : (ax u : List C) (rest : List (List C)) → length ax ≡ n - (i + 1) → ax ≡ axis_of K (drop 1 (take (n - i) (drop i t))) →
      rest ≡ stepped_rest K (take (n - i) (drop i t)) (lower n (i + 1) (n - i - 1) (drop n t)) →
      u ≡ put n (i + 1) (n - i - 1) rest (drop n t) →
      take n (put_mid (i + 1) (n - (i + 1)) t ax) ++ u ≡
      put n i (n - i) (stepped_column K (take (n - i) (drop i t)) ∷
      stepped_rest K (take (n - i) (drop i t)) (lower n (i + 1) (n - i - 1) (drop n t))) t
  unfolding stepped_column
  stepped_is ax u rest long is_ax is_rest is_u =
      let start : i + 1 ≤ length t = omega arith in
      let end : n ≡ i + 1 + length ax = omega arith in
      let count : n - i ≡ suc (n - i - 1) = omega arith in
      let one : 1 ≤ n - i = omega arith in
      let c = take (n - i) (drop i t) in
      let grouped : ((take i t ++ take 1 c) ++ ax) ++ put n (suc i) (n - i - 1) rest (drop n t) ≡
      take i t ++ ((take 1 c ++ ax) ++ put n (suc i) (n - i - 1) rest (drop n t)) = simp append_assoc in
      cc (
        take-put_mid (i + 1) (n - (i + 1)) t ax n end start,
        take-add i 1 t,
        take-take 1 (n - i) (drop i t) one,
        grouped,
        add-one i,
        put_cons n i (n - i - 1) (take 1 c ++ ax) rest t,
      )

  pub rest_kept : (cs : List (List C)) (c : List C) → axis_reflects K (drop 1 c) ≡ false → cs ≡ stepped_rest K c cs
  unfolding stepped_rest
  rest_kept cs c e = rw e

  pub rest_reflected : (cs : List (List C)) (c : List C) → axis_reflects K (drop 1 c) ≡ true →
      updated K (axis_of K (drop 1 c)) cs ≡ stepped_rest K c cs
  unfolding stepped_rest
  rest_reflected cs c e = rw e

  -- Where there is no reflection only the column changes.
  step_kept : (col ax : List C) → col ≡ take (n - (i + 1)) (drop (i + 1) t) → ax ≡ axis_of K col → length ax ≡ n - (i + 1) →
      axis_reflects K col ≡ false →
      put_mid (i + 1) (n - (i + 1)) t ax ≡
      put n i (n - i) (stepped_column K (take (n - i) (drop i t)) ∷
      stepped_rest K (take (n - i) (drop i t)) (lower n (i + 1) (n - i - 1) (drop n t))) t
  step_kept col ax is_col is_ax long flag =
      let all : i + 1 + (n - i - 1) ≡ n = omega arith in
      let cs = lower n (i + 1) (n - i - 1) (drop n t) in
      let t1 = put_mid (i + 1) (n - (i + 1)) t ax in
      let kept : axis_reflects K (drop 1 (take (n - i) (drop i t))) ≡ false = cc (below_part, is_col, flag) in
      let made : ax ≡ axis_of K (drop 1 (take (n - i) (drop i t))) = cc (below_part, is_col, is_ax) in
      let same : drop n t1 ≡ put n (i + 1) (n - i - 1) cs (drop n t) =
      cc (past_axis ax long, put_lower n (i + 1) (n - i - 1) (drop n t) all) in
      cc (take-append-drop n t1, stepped_is ax (drop n t1) cs long made (rest_kept cs (take (n - i) (drop i t)) kept) same)

  -- Where there is one the square is updated; x is what was lent of it, and u what came back.
  step_reflected : (col ax axis x u : List C) → col ≡ take (n - (i + 1)) (drop (i + 1) t) → ax ≡ axis_of K col → length ax ≡ n - (i + 1) →
      axis_reflects K col ≡ true →
      axis ≡ take (n - (i + 1)) (drop (i + 1) (put_mid (i + 1) (n - (i + 1)) t ax)) →
      x ≡ take (length (put_mid (i + 1) (n - (i + 1)) t ax) - n) (drop n (put_mid (i + 1) (n - (i + 1)) t ax)) →
      u ≡ put n (i + 1) (n - (i + 1)) (updated K axis (lower n (i + 1) (n - (i + 1)) x)) x →
      put_mid n (length (put_mid (i + 1) (n - (i + 1)) t ax) - n) (put_mid (i + 1) (n - (i + 1)) t ax) u ≡
      put n i (n - i) (stepped_column K (take (n - i) (drop i t)) ∷
      stepped_rest K (take (n - i) (drop i t)) (lower n (i + 1) (n - i - 1) (drop n t))) t
  step_reflected col ax axis x u is_col is_ax long flag is_axis is_x is_u =
      let start : i + 1 ≤ length t = omega arith in
      let same : n - (i + 1) ≡ n - i - 1 = omega arith in
      let t1 = put_mid (i + 1) (n - (i + 1)) t ax in
      let cs = lower n (i + 1) (n - i - 1) (drop n t) in
      let c = take (n - i) (drop i t) in
      let made : ax ≡ axis_of K (drop 1 c) = cc (below_part, is_col, is_ax) in
      let copied : axis ≡ axis_of K (drop 1 c) = cc (is_axis, between-put_mid (i + 1) (n - (i + 1)) t ax n start long, made) in
      let reflects : axis_reflects K (drop 1 c) ≡ true = cc (below_part, is_col, flag) in
      let rest_is : x ≡ drop n t = cc (is_x, take_rest t1 n, past_axis ax long) in
      let write : u ≡ put n (i + 1) (n - i - 1) (updated K (axis_of K (drop 1 c)) cs) (drop n t) = cc (is_u, same, rest_is, copied) in
      cc (end_written n t1 u, stepped_is ax u (updated K (axis_of K (drop 1 c)) cs) long made (rest_reflected cs c reflects) write)

  -- Both, by what was reported.
  pub step_table : (col ax axis x u : List C) (reflects : Bool) → col ≡ take (n - (i + 1)) (drop (i + 1) t) → ax ≡ axis_of K col →
      length ax ≡ n - (i + 1) → reflects ≡ axis_reflects K col →
      axis ≡ take (n - (i + 1)) (drop (i + 1) (put_mid (i + 1) (n - (i + 1)) t ax)) →
      x ≡ take (length (put_mid (i + 1) (n - (i + 1)) t ax) - n) (drop n (put_mid (i + 1) (n - (i + 1)) t ax)) →
      u ≡ cond reflects (put n (i + 1) (n - (i + 1)) (updated K axis (lower n (i + 1) (n - (i + 1)) x)) x) x →
      put_mid n (length (put_mid (i + 1) (n - (i + 1)) t ax) - n) (put_mid (i + 1) (n - (i + 1)) t ax) u ≡
      put n i (n - i) (stepped_column K (take (n - i) (drop i t)) ∷
      stepped_rest K (take (n - i) (drop i t)) (lower n (i + 1) (n - i - 1) (drop n t))) t
  step_table col ax axis x u reflects is_col is_ax long flag is_axis is_x is_u =
      let t1 = put_mid (i + 1) (n - (i + 1)) t ax in
      let made = put n (i + 1) (n - (i + 1)) (updated K axis (lower n (i + 1) (n - (i + 1)) x)) x in
      ⊎_elim
      (λ (was : reflects ≡ true).
      step_reflected col ax axis x u is_col is_ax long (sym flag ∙ was) is_axis is_x (is_u ∙ cond-true reflects made x was))
      (λ (was : reflects ≡ false).
      cc (
        end_written n t1 u,
        cond-false reflects made x was,
        take_rest t1 n,
        take-append-drop n t1,
        step_kept col ax is_col is_ax long (sym flag ∙ was),
      ))
      (cases_Bool reflects)
