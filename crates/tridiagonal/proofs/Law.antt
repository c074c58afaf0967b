-- Only the lower columns and the largest size decide what a reduction leaves.
use Rattle.std.proofs.Common.{◌≡◌, ℕ, zero, suc, ◌+◌, ◌-◌, ◌*◌, ◌<◌, ◌≤◌, List, length, get_or, take, drop, Some, None, Option, sym, refl, ap, ◌∙◌, suc-mul, zero-mul, arith, length-drop, length-take-le, get_or-drop, get_or-take, drop-drop}
use Rattle.std.proofs.lemmas.List.{same_lists}
use Rattle.fault.specs.Refusals.{Refusal}
use Rattle.tridiagonal.specs.Checks.{refusal_for}
use Rattle.tridiagonal.specs.Householder.{Kind}
use Rattle.tridiagonal.specs.Outcome.{Outcome, Reduced, Refused, reduce_outcome, unless_refused}
use Rattle.tridiagonal.specs.Reduce.{largest_size, divided, reduced_lower, reduced_signs, reduced_offs, reduced_values, reduced_table, values_of, offs_of, signs_of}
use Rattle.tridiagonal.specs.Runs.{Buffers, ReduceRun, AlikeBelow, OnlyLower}
use Rattle.tridiagonal.specs.Tables.{lower, put}
use Rattle.tridiagonal.specs.Tridiagonal.{reduced_columns}
use Rattle.tridiagonal.specs.Accepted.{accepted, unless_none}
use Rattle.tridiagonal.proofs.Columns.{lower_cons, lower_none, column_held}
use Rattle.tridiagonal.proofs.Whole.{whole_table, whole_lower}

-- Tables alike on and below the diagonal have the same lower columns.
module _ {C : Type 0} (n : ℕ) (t u : List C) (t_long : length t ≡ n * n) (u_long : length u ≡ n * n) (alike : AlikeBelow n t u) where
  column_long : (k m : ℕ) (x : List C) → k + suc m ≡ n → length x ≡ n * n → length (take (suc m) (drop k (drop (k * n) x))) ≡ suc m
  column_long k m x all long =
      let held = column_held k n n (omega arith) in
      let d = length-drop (k * n) x in let e = length-drop k (drop (k * n) x) in
      length-take-le (suc m) (drop k (drop (k * n) x)) (omega arith)

  entry_of : (k m i : ℕ) (x : List C) (d : C) → i < suc m →
      get_or (take (suc m) (drop k (drop (k * n) x))) i d ≡ get_or x (k * n + (k + i)) d
  entry_of k m i x d h =
      get_or-take (suc m) (drop k (drop (k * n) x)) i d h ∙ get_or-drop k (drop (k * n) x) i d ∙ get_or-drop (k * n) x (k + i) d

  column_same : (k m : ℕ) → k + suc m ≡ n → take (suc m) (drop k (drop (k * n) t)) ≡ take (suc m) (drop k (drop (k * n) u))
  column_same k m all =
      let long = column_long k m t all t_long in
      same_lists (take (suc m) (drop k (drop (k * n) t))) (take (suc m) (drop k (drop (k * n) u)))
      (long ∙ sym (column_long k m u all u_long))
      (λ i d h.
      let in_column : i < suc m = omega arith in
      let below : k ≤ k + i = omega arith in
      let row : k + i < n = omega arith in
      entry_of k m i t d in_column ∙ alike (k + i) k d below row ∙ sym (entry_of k m i u d in_column))

  columns_same : (k m : ℕ) → k + m ≡ n → lower n k m (drop (k * n) t) ≡ lower n k m (drop (k * n) u)
  columns_same k zero all = lower_none n k (drop (k * n) t) ∙ sym (lower_none n k (drop (k * n) u))
  columns_same k (suc m) all =
      let on : suc k + m ≡ n = omega arith in
      cc (
        lower_cons n k m (drop (k * n) t),
        lower_cons n k m (drop (k * n) u),
        column_same k m all,
        columns_same (suc k) m on,
        suc-mul k n,
        drop-drop n (k * n) t,
        drop-drop n (k * n) u,
      )

  pub lower_same : lower n 0 n t ≡ lower n 0 n u
  lower_same =
      let all : 0 + n ≡ n = omega arith in
      cc (columns_same 0 n all, zero-mul n)

module _ {C R : Type 0} (K : Kind C R) where
  -- the lower columns of a reduced table
  lower_reduced : (n : ℕ) (t : List C) → length t ≡ n * n →
      lower n 0 n (reduced_table K n t) ≡ reduced_lower K n (largest_size K t) (lower n 0 n t)
  lower_reduced n t held =
      let d = divided K (largest_size K t) t in
      let T = put n 0 n (reduced_columns K (n - 1) (lower n 0 n d)) d in
      ap (lower n 0 n) (sym (whole_table K n t d T (largest_size K t) held refl refl refl))
      ∙ whole_lower K n t d T (largest_size K t) held refl refl refl

  -- What is known of a run that was answered by a reduction of side n and this largest size: all by n, by it and by the lower columns.
  record Form (n : ℕ) (l : R) (given left : Buffers C R) : Type 0 where
    long : length given.table ≡ n * n
    values : left.values ≡ reduced_values K n l (lower n 0 n given.table)
    offs : left.offs ≡ reduced_offs K n l (lower n 0 n given.table)
    signs : left.signs ≡ reduced_signs K n l (lower n 0 n given.table)
    columns : lower n 0 n left.table ≡ reduced_lower K n l (lower n 0 n given.table)

  form_by : (n m : ℕ) (l : R) (given left : Buffers C R) (answer : Outcome R) (why : Option Refusal) →
      refusal_for K m given.table given.values given.offs given.signs given.scratch ≡ why →
      ReduceRun K m given answer left → answer ≡ Reduced n l → Form n l given left
  form_by n m l given left answer None e run is =
      let answered : Reduced m (largest_size K given.table) ≡ Reduced n l =
      sym (run.answer ∙ ap (λ z. reduce_outcome z m (largest_size K given.table)) e) ∙ is in
      let side : m ≡ n = cc in
      let largest : largest_size K given.table ≡ l = cc in
      let ok = accepted K m given.table (length given.values) (length given.offs) (length given.signs) (length given.scratch) e in
      let long = ok.as_table in
      record {
        long = cc (long, side);
        values = cc (run.values, unless_none _ given.values (values_of K m given.table) e, largest, side);
        offs = cc (run.offs, unless_none _ given.offs (offs_of K m given.table) e, largest, side);
        signs = cc (run.signs, unless_none _ given.signs (signs_of K m given.table) e, largest, side);
        columns = cc (
          run.table,
          unless_none _ given.table (reduced_table K m given.table) e,
          lower_reduced m given.table long,
          largest,
          side,
        );
      }
  form_by n m l given left answer (Some why) e run is =
      let answered : Refused why ≡ Reduced n l = sym (run.answer ∙ ap (λ z. reduce_outcome z m (largest_size K given.table)) e) ∙ is in
      absurd (cc)

  pub only_lower : (n : ℕ) (given : Buffers C R) (answer : Outcome R) (left : Buffers C R) → ReduceRun K n given answer left →
      OnlyLower K (record { side = n; given = given; answer = answer; left = left })
  only_lower m given answer left run other n l run' is is' alike =
      let a = form_by n m l given left answer _ refl run is in
      let b = form_by n other.side l other.given other.left other.answer _ refl run' is' in
      let same = lower_same n given.table other.given.table a.long b.long alike in
      record {
        values = cc (a.values, b.values, same);
        offs = cc (a.offs, b.offs, same);
        signs = cc (a.signs, b.signs, same);
        q = cc (a.columns, b.columns, a.signs, b.signs, same);
      }

  -- A call that is not refused is a run.
  pub accepted_run : (n : ℕ) (given : Buffers C R) (answer : Outcome R) (left : Buffers C R) →
      refusal_for K n given.table given.values given.offs given.signs given.scratch ≡ None →
      answer ≡ Reduced n (largest_size K given.table) → left.table ≡ reduced_table K n given.table →
      left.values ≡ values_of K n given.table → left.offs ≡ offs_of K n given.table → left.signs ≡ signs_of K n given.table →
      length left.scratch ≡ length given.scratch → ReduceRun K n given answer left
  accepted_run n given answer left e is t v f s c =
      record {
        answer = is ∙ sym (ap (λ z. reduce_outcome z n (largest_size K given.table)) e);
        table = t ∙ sym (unless_none _ given.table (reduced_table K n given.table) e);
        values = v ∙ sym (unless_none _ given.values (values_of K n given.table) e);
        offs = f ∙ sym (unless_none _ given.offs (offs_of K n given.table) e);
        signs = s ∙ sym (unless_none _ given.signs (signs_of K n given.table) e);
        scratch = rw e c;
      }

  -- A call that is refused is a run.
  pub refused_run : (n : ℕ) (given : Buffers C R) (answer : Outcome R) (why : Refusal) →
      refusal_for K n given.table given.values given.offs given.signs given.scratch ≡ Some why →
      answer ≡ Refused why → ReduceRun K n given answer given
  refused_run n given answer why e is =
      record {
        answer = is ∙ sym (ap (λ z. reduce_outcome z n (largest_size K given.table)) e);
        table = sym (ap (λ z. unless_refused z given.table (reduced_table K n given.table)) e);
        values = sym (ap (λ z. unless_refused z given.values (values_of K n given.table)) e);
        offs = sym (ap (λ z. unless_refused z given.offs (offs_of K n given.table)) e);
        signs = sym (ap (λ z. unless_refused z given.signs (signs_of K n given.table)) e);
        scratch = rw e refl;
      }
