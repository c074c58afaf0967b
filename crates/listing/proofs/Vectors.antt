-- What is listed of a table asked for its vectors, beside what is listed of it asked for its values.
use Rattle.std.proofs.Common.{◌≡◌, ℕ, ◌*◌, ◌/◌, ◌%◌, true, false, List, [], ◌∷◌, ◌++◌, map, length, Some, None, Float, to_bits, sym, refl, ap, ◌∙◌}
use Rattle.std.specs.Float.{binary64}
use Rattle.std.proofs.lemmas.List.{append-nil, length-map}
use Rattle.std.proofs.lemmas.List.FromFn.{length-enumerate_from, length-map-range_with_len}
use Rattle.std.specs.List.{AllByRecursion, enumerate_from}
use Rattle.rows.specs.Keepers.{Answer, given, denied}
use Rattle.rows.specs.Makes.{row_of}
use Rattle.rows.specs.Turns.{Turn, turned_all}
use Rattle.tridiagonal.specs.Assemble.{matrix_q}
use Rattle.tridiagonal.specs.Householder.{Kind}
use Rattle.tridiagonal.specs.Tables.{lower}
use Rattle.eigen.specs.Runs.{Run}
use Rattle.eigen.specs.Settles.{settle_of}
use Rattle.decomposition.specs.Kinds.{r64, c64}
use Rattle.decomposition.specs.Solutions.{Form, Solution, solved, failed, starved, ended, settled_form, unless_failed, task_of, table_refusal, reduced_form, rows_of_q, vectors_of, solution, SameButVectors}
use Rattle.decomposition.proofs.HeldRows.{length_columns}
use Rattle.decomposition.proofs.Whole.{same_values}
use Rattle.job.specs.Typed.{Typed, entries}
use Rattle.sheet.specs.declared.desk.Asked.TheVariants.{Values, Vectors}
use Rattle.sheet.specs.Desk.{Table, real_table, outline_table}
use Rattle.sheet.specs.Sheets.{Closing, run}
use Rattle.listing.specs.declared.line.Line.{Line}
use Rattle.listing.specs.declared.line.Line.TheVariants.{Heading}
use Rattle.listing.specs.Laws.{AddsRows, AddsRowsTo, followed_by, vectors_in}
use Rattle.listing.specs.Listings.{entry_lines, lists, made_from, made_of_typed, solution_of_typed, value_lines}
use Rattle.listing.specs.Shown.{ShownAs, reals_shown, outlines_shown}

-- no vectors where none are asked for
Bare : {C R : Type 0} → Solution C R → Type 0
Bare (solved e) = e.vectors ≡ []
Bare (failed why) = Unit {0}
Bare starved = Unit {0}

-- as many entries as there are places, where there are vectors
Filled : {C R : Type 0} → ℕ → Solution C R → Type 0
Filled n (solved e) = length e.vectors ≡ n * n
Filled n (failed why) = Unit {0}
Filled n starved = Unit {0}

module _ {C R : Type 0} (K : Kind C R) (n : ℕ) (t : List C) (tolerance : R) (limit : ℕ) where
  bare_ended : (f : Form C R) (run : Run R) (a : Answer ℕ) → Bare (ended K false f run a)
  unfolding Bare
  bare_ended f run (given passes) = refl
  bare_ended f run (denied why) = tt

  bare : Bare (solution K false n t tolerance limit)
  unfolding solution Bare
  bare =
      let f = reduced_form K n t in
      let r = settle_of K.reals K.real (task_of f tolerance) limit in
      elim (table_refusal K n t) as (λ o. Bare (unless_failed K o (settled_form K false f tolerance limit)))
      [ None ↦ bare_ended f r r.answer | Some why ↦ tt ]

  filled_form : (f : Form C R) (ts : List (Turn R)) → length (vectors_of K f ts) ≡ f.side * f.side
  filled_form f ts =
      length_columns K.ops.zero (map (turned_all K.ops ts) (rows_of_q K f)) f.side ∙
      ap (λ (m : ℕ). f.side * m)
      (length-map (rows_of_q K f) (turned_all K.ops ts) ∙
      length-map-range_with_len (row_of K.ops.zero f.side f.side (matrix_q K f.side (lower f.side 0 f.side f.table) f.signs)) 0 f.side)

  filled_ended : (f : Form C R) (run : Run R) (a : Answer ℕ) → Filled f.side (ended K true f run a)
  unfolding Filled
  filled_ended f run (given passes) = filled_form f run.turns
  filled_ended f run (denied why) = tt

  filled : Filled n (solution K true n t tolerance limit)
  unfolding solution Filled
  filled =
      let f = reduced_form K n t in
      let r = settle_of K.reals K.real (task_of f tolerance) limit in
      elim (table_refusal K n t) as (λ o. Filled n (unless_failed K o (settled_form K true f tolerance limit)))
      [ None ↦ filled_ended f r r.answer | Some why ↦ tt ]

module _ {C : Type 0} (S : ShownAs C) where
  more_lines : (heading : ℕ → Line) (side : ℕ) (p q : ℕ) (vs ws : List Float) (es fs : List C) → p ≡ q → vs ≡ ws → fs ≡ [] →
      heading p ∷ (value_lines vs ++ entry_lines S side es) ≡
      (heading q ∷ (value_lines ws ++ entry_lines S side fs)) ++ entry_lines S side es
  more_lines heading side p q vs ws es fs same alike none =
      let bare : value_lines ws ++ entry_lines S side fs ≡ value_lines ws =
      ap (λ xs. value_lines ws ++ entry_lines S side xs) none ∙ append-nil (value_lines ws) in
      ap (λ k. heading k ∷ (value_lines vs ++ entry_lines S side es)) same ∙
      ap (λ xs. heading q ∷ (value_lines xs ++ entry_lines S side es)) alike ∙
      sym (ap (λ ls. heading q ∷ (ls ++ entry_lines S side es)) bare)

  more : (side : ℕ) (largest : Float) (a b : Solution C Float) → SameButVectors a b → Bare b →
      made_from S side largest a ≡ followed_by (made_from S side largest b) (entry_lines S side (vectors_in a))
  unfolding Bare
  more side largest (solved a) (solved b) h e =
      ap lists (more_lines (Heading S.kind side (to_bits binary64 largest)) side _ _ _ _ _ _ h.1 h.2 e)
  more side largest (solved a) (failed v) h e = absurd h
  more side largest (solved a) starved h e = absurd h
  more side largest (failed w) (solved b) h e = absurd h
  more side largest (failed w) (failed v) h e = cc
  more side largest (failed w) starved h e = absurd h
  more side largest starved (solved b) h e = absurd h
  more side largest starved (failed v) h e = absurd h
  more side largest starved starved h e = refl

  typed_more : (K : Kind C Float) (j : Typed C Float) →
      made_of_typed S K Vectors j ≡
      followed_by (made_of_typed S K Values j) (entry_lines S j.side (vectors_in (solution_of_typed K Vectors j)))
  typed_more K j =
      more j.side j.largest (solution K true j.side (entries K.ops j) j.tolerance j.limit)
      (solution K false j.side (entries K.ops j) j.tolerance j.limit)
      (same_values K j.side (entries K.ops j) j.tolerance j.limit (solution K true j.side (entries K.ops j) j.tolerance j.limit) true refl)
      (bare K j.side (entries K.ops j) j.tolerance j.limit)

  -- a line for each place
  places : (side : ℕ) (largest : Float) (a : Solution C Float) → Filled side a → (ls : List Line) → made_from S side largest a ≡ lists ls →
      length (entry_lines S side (vectors_in a)) ≡ side * side
  unfolding Filled
  places side largest (solved e) h ls is =
      length-map (enumerate_from 0 e.vectors) (λ p. S.line (p.0 % side) (p.0 / side) p.1) ∙ length-enumerate_from 0 e.vectors ∙ h
  places side largest (failed why) h ls is = absurd (cc)
  places side largest starved h ls is = absurd (cc)

  typed_places : (K : Kind C Float) (j : Typed C Float) (ls : List Line) → made_of_typed S K Vectors j ≡ lists ls →
      length (entry_lines S j.side (vectors_in (solution_of_typed K Vectors j))) ≡ j.side * j.side
  typed_places K j =
      places j.side j.largest (solution K true j.side (entries K.ops j) j.tolerance j.limit)
      (filled K j.side (entries K.ops j) j.tolerance j.limit)

of_table : (t : Table) → AddsRowsTo t
of_table (real_table asked j) = record {
  follow = typed_more reals_shown r64 j;
  many = typed_places reals_shown r64 j;
}
of_table (outline_table asked j) = record {
  follow = typed_more outlines_shown c64 j;
  many = typed_places outlines_shown c64 j;
}

of_all : (cs : List Closing) → AllByRecursion (λ c. AddsRowsTo c.table) cs
of_all [] = tt
of_all (c ∷ cs) = (of_table c.table, of_all cs)

pub adds_rows : (s : List ℕ) → AddsRows s
adds_rows s = of_all (run s).tables
