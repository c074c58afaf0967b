-- What stands above the diagonal has no say in a solution.
use Rattle.std.proofs.Common.{◌≡◌, ℕ, ◌-◌, Bool, cond, List, [], None, sym, refl, ap, ◌∙◌, map, replicate}
use Rattle.std.proofs.lemmas.List.{length-replicate}
use Rattle.rows.specs.Keepers.{Answer, given, denied}
use Rattle.rows.specs.Makes.{rows_of}
use Rattle.rows.specs.Turns.{turned_all}
use Rattle.tridiagonal.specs.Checks.{reduce_refusal}
use Rattle.tridiagonal.specs.Householder.{Kind}
use Rattle.tridiagonal.specs.Outcome.{Reduced}
use Rattle.tridiagonal.specs.Reduce.{largest_size, reduced_table, values_of, offs_of, signs_of}
use Rattle.tridiagonal.specs.Runs.{Run as Reducing, Buffers, buffers, call, ReduceRun, AlikeBelow, SameForm}
use Rattle.tridiagonal.proofs.Law.{accepted_run, only_lower as same_lower}
use Rattle.eigen.specs.Runs.{Run}
use Rattle.eigen.specs.Settles.{Task, settle_of}
use Rattle.decomposition.specs.Solutions.{Form, ended_with, settled_form, task_of, rows_of_q, vectors_of, by_columns, table_refusal, reduced_form, unless_failed, solution}
use Rattle.decomposition.specs.Laws.{OnlyLower}

module _ {C R : Type 0} (K : Kind C R) (n : ℕ) where
  -- buffers as long as the side asks for
  abbrev given_for : List C → Buffers C R
  given_for t = buffers t (replicate n K.reals.zero) (replicate (n - 1) K.reals.zero) (replicate (n - 1) K.ops.zero)
      (replicate (n - 1) K.ops.zero)

  abbrev left_for : List C → Buffers C R
  left_for t = buffers (reduced_table K n t) (values_of K n t) (offs_of K n t) (signs_of K n t) (replicate (n - 1) K.ops.zero)

  abbrev run_for : List C → Reducing C R
  run_for t = call n (given_for t) (Reduced n (largest_size K t)) (left_for t)

  same_refusal : (t : List C) (v f s c : ℕ) → v ≡ n → f ≡ n - 1 → s ≡ n - 1 → c ≡ n - 1 →
      reduce_refusal K n t v f s c ≡ table_refusal K n t
  same_refusal t v f s c ev ef es ec = cc

  runs : (t : List C) → table_refusal K n t ≡ None → ReduceRun K n (given_for t) (Reduced n (largest_size K t)) (left_for t)
  runs t none =
      accepted_run K n (given_for t) (Reduced n (largest_size K t)) (left_for t)
      (same_refusal t _ _ _ _ (length-replicate n K.reals.zero) (length-replicate (n - 1) K.reals.zero)
      (length-replicate (n - 1) K.ops.zero) (length-replicate (n - 1) K.ops.zero) ∙ none) refl refl refl refl refl refl

  same_form : (t u : List C) → table_refusal K n t ≡ None → table_refusal K n u ≡ None → AlikeBelow n t u →
      largest_size K t ≡ largest_size K u → SameForm K n (left_for t) (left_for u)
  same_form t u none none' below size =
      same_lower K n (given_for t) (Reduced n (largest_size K t)) (left_for t) (runs t none) (run_for u) n (largest_size K t)
      (runs u none') refl (ap (Reduced n) (sym size)) below

  ended_alike : (v w : List C) (f g : Form C R) (r s : Run R) (a b : Answer ℕ) → v ≡ w → f.largest ≡ g.largest → r ≡ s → a ≡ b →
      ended_with K v f r a ≡ ended_with K w g s b
  ended_alike v w f g r s (given passes) b ev el er ea = rw (sym ea, ev, el, er)
  ended_alike v w f g r s (denied why) b ev el er ea = rw (sym ea)

  task_alike : (l m : R) (v w o p : List R) (tolerance : R) → l ≡ m → v ≡ w → o ≡ p →
      ◌≡◌ {A = Task R} (record { side = n; largest = l; values = v; offs = o; tolerance = tolerance; width = n })
      (record { side = n; largest = m; values = w; offs = p; tolerance = tolerance; width = n })
  task_alike l m v w o p tolerance el ev eo = rw (el, ev, eo)

  settled_alike : (asked : Bool) (t u : List C) (tolerance : R) (limit : ℕ) → largest_size K t ≡ largest_size K u →
      SameForm K n (left_for t) (left_for u) →
      settled_form K asked (reduced_form K n t) tolerance limit ≡ settled_form K asked (reduced_form K n u) tolerance limit
  settled_alike asked t u tolerance limit size same =
      let f = reduced_form K n t in
      let g = reduced_form K n u in
      let task : task_of f tolerance ≡ task_of g tolerance =
      task_alike (largest_size K t) (largest_size K u) (values_of K n t) (values_of K n u) (offs_of K n t) (offs_of K n u) tolerance size
      same.values same.offs in
      let r = settle_of K.reals K.real (task_of f tolerance) limit in
      let s = settle_of K.reals K.real (task_of g tolerance) limit in
      let run : r ≡ s = ap (λ (k : Task R). settle_of K.reals K.real k limit) task in
      let rows : rows_of_q K f ≡ rows_of_q K g = ap (rows_of K.ops.zero n n) same.q in
      let vectors : vectors_of K f r.turns ≡ vectors_of K g s.turns =
      ap (λ (q : List (List C)). by_columns K.ops.zero (map (turned_all K.ops r.turns) q) n) rows
      ∙ ap (λ (x : Run R). by_columns K.ops.zero (map (turned_all K.ops x.turns) (rows_of_q K g)) n) run in
      ended_alike (cond asked (vectors_of K f r.turns) []) (cond asked (vectors_of K g s.turns) []) f g r s r.answer s.answer
      (ap (λ (x : List C). cond asked x []) vectors) size run (ap (λ (x : Run R). x.answer) run)

pub only_lower : {C R : Type 0} (K : Kind C R) (asked : Bool) (n : ℕ) (t : List C) (tolerance : R) (limit : ℕ) →
    OnlyLower K asked n t tolerance limit
unfolding OnlyLower solution
only_lower K asked n t tolerance limit u none none' below size =
    ap (λ o. unless_failed K o (settled_form K asked (reduced_form K n t) tolerance limit)) none
    ∙ settled_alike K n asked t u tolerance limit size (same_form K n t u none none' below size)
    ∙ sym (ap (λ o. unless_failed K o (settled_form K asked (reduced_form K n u) tolerance limit)) none')
