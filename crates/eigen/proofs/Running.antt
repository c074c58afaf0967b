-- A run pass by pass: what is left gives the whole.
use Rattle.std.proofs.Common.{◌≡◌, ℕ, suc, ◌+◌, ◌-◌, ◌<◌, ◌≤◌, Bool, true, false, cond, ltb, List, Some, None, Option, sym, refl, ap, ◌∙◌, arith}
use Rattle.std.proofs.lemmas.Bool.{eq-eqb, ne_eqb}
use Rattle.std.specs.Option.{is_some}
use Rattle.scalar.specs.Ops.{Ops, RealOps}
use Rattle.rows.specs.Turns.{Turn}
use Rattle.rows.specs.Keepers.{Kept, Answer}
use Rattle.eigen.specs.declared.eigenvalues.Vector2.{Vector2}
use Rattle.eigen.specs.Turnings.{Turning, unturned, kept_all}
use Rattle.eigen.specs.Passes.{pass_left, pass_end, pair_at, pair_put, pair_exists, chase_end}
use Rattle.eigen.specs.Chases.{chased}
use Rattle.eigen.specs.Blocks.{Span, block_from, offs_from, within}
use Rattle.eigen.specs.Iterate.{Step, single, broken, passed, Ran, ran_of, onward, settled, not_settled, no_pair, iterate}
use Rattle.eigen.specs.Runs.{Standing, standing_of, searched, passed_to, pass_of, values_at, run_of}
use Rattle.eigen.proofs.Turned.{turn_none, kept_then}

module _ {S L : Type 0} (step : S → Step S L) (limit count : ℕ) (s : S) where
  pub iterate_over : limit ≤ count → iterate step (limit - count) count s ≡ ran_of (not_settled count) s
  unfolding iterate
  iterate_over h = let e : limit - count ≡ 0 = omega arith in ap (λ (n : ℕ). iterate step n count s) e

  pub iterate_step : (o : Step S L) → count < limit → step s ≡ o →
      iterate step (limit - count) count s ≡ onward count s (iterate step (limit - (count + 1)) (count + 1)) o
  unfolding iterate
  iterate_step o h e =
      let k : limit - count ≡ suc (limit - (count + 1)) = omega arith in
      ap (λ (n : ℕ). iterate step n count s) k ∙ ap (onward count s (iterate step (limit - (count + 1)) (count + 1))) e

-- what stands at the end, and what the keeper holds
pub record Ended (C R : Type 0) : Type 0 where
  pub answer : Answer ℕ
  pub values : List R
  pub offs : List R
  pub kept : Kept C

abbrev pub ended_of : {C R : Type 0} → Answer ℕ → List R → List R → Kept C → Ended C R
ended_of a values offs k = record { answer = a; values = values; offs = offs; kept = k }

abbrev pub ended_by : {C R : Type 0} → Ops C R → Ran (Standing R) (Turn R) → Kept C → Ended C R
ended_by ops r k = ended_of r.answer r.left.values r.left.offs (kept_all ops r.made k)

module _ {R : Type 0} (ops : Ops R R) (real : RealOps R) (tolerance : R) where
  some_none : {A : Type 0} (x : A) → None ≡ Some x → ⊥
  some_none x e = let z : ◌≡◌ {A = ℕ} 0 1 = cc in omega arith

  -- a pass that breaks off has changed nothing
  pub broken_left : (start end : ℕ) (values offs : List R) → None ≡ pass_end ops real tolerance start end values offs →
      pass_left ops real tolerance start end values offs ≡ unturned values offs
  broken_left start end values offs = go (ltb (start + 1) end) (pair_at ops real start values offs)
    where
      go : (b : Bool) (o : Option (Vector2 R)) →
          None ≡ cond b (Some (chase_end ops real tolerance end (chased ops real start end values offs)))
          (cond (is_some o) (Some (end - 1)) None) →
          cond b (chased ops real start end values offs) (pair_put ops real tolerance start values offs o) ≡ unturned values offs
      go true o e = absurd (some_none _ e)
      go false None e = refl
      go false (Some x) e = absurd (some_none _ e)

  -- the next search begins at the block's end or right below it
  pub pass_falls : (start end next : ℕ) (values offs : List R) → Some next ≡ pass_end ops real tolerance start end values offs → next ≤ end
  pass_falls start end next values offs =
      go (ltb (start + 1) end) (pair_exists ops real tolerance start values offs)
      (within ops real tolerance (chased ops real start end values offs).values (chased ops real start end values offs).offs (end - 1))
    where
      go : (b p w : Bool) → Some next ≡ cond b (Some (cond w (end - 1) end)) (cond p (Some (end - 1)) None) → next ≤ end
      go true p true e = let k : next ≡ end - 1 = cc in omega arith
      go true p false e = let k : next ≡ end = cc in omega arith
      go false true w e = let k : next ≡ end - 1 = cc in omega arith
      go false false w e = absurd (some_none _ (sym e))

  pub search_same : (next : ℕ) (v v' o o' o'' : List R) (block : Span) → v' ≡ v → o' ≡ o → o'' ≡ offs_from ops real tolerance v' o' next →
      block ≡ block_from ops real tolerance v' o' next → standing_of v' o'' block ≡ searched ops real tolerance v o next
  search_same next v v' o o' o'' block p q u w = cc

module _ {C R : Type 0} (ops : Ops C R) (rops : Ops R R) (real : RealOps R) (tolerance : R) (limit : ℕ) where
  -- what a run from here gives
  abbrev pub ends_from : ℕ → List R → List R → Span → Kept C → Ended C R
  ends_from count values offs block k = ended_by ops (iterate (pass_of rops real tolerance) (limit - count) count
      (standing_of values offs block)) k

  pub ends_over : (count : ℕ) (values offs : List R) (block : Span) (k : Kept C) → count ≤ limit → limit ≤ count →
      ends_from count values offs block k ≡ ended_of (not_settled limit) values offs k
  ends_over count values offs block k least h =
      let e : count ≡ limit = omega arith in
      ap (λ (r : Ran (Standing R) (Turn R)). ended_by ops r k)
      (iterate_over (pass_of rops real tolerance) limit count (standing_of values offs block) h)
      ∙ ap (ended_of (not_settled count) values offs) (turn_none ops k)
      ∙ ap (λ (n : ℕ). ended_of (not_settled n) values offs k) e

  pub ends_single : (count : ℕ) (values offs : List R) (block : Span) (k : Kept C) → count < limit → block.start ≡ block.end →
      ends_from count values offs block k ≡ ended_of (settled count) values offs k
  ends_single count values offs block k h e =
      let s = standing_of values offs block in
      let o = passed_to rops real tolerance (pass_end rops real tolerance block.start block.end values offs)
      (pass_left rops real tolerance block.start block.end values offs) in
      let is : pass_of rops real tolerance s ≡ single =
      ap (λ (b : Bool). cond b single o) (eq-eqb block.start block.end e) in
      ap (λ (r : Ran (Standing R) (Turn R)). ended_by ops r k) (iterate_step (pass_of rops real tolerance) limit count s single h is)
      ∙ ap (ended_of (settled count) values offs) (turn_none ops k)

  passes : (values offs : List R) (block : Span) → (block.start ≡ block.end → ⊥) →
      pass_of rops real tolerance (standing_of values offs block)
      ≡ passed_to rops real tolerance (pass_end rops real tolerance block.start block.end values offs)
      (pass_left rops real tolerance block.start block.end values offs)
  passes values offs block ne =
      ap (λ (b : Bool). cond b single (passed_to rops real tolerance (pass_end rops real tolerance block.start block.end values offs)
      (pass_left rops real tolerance block.start block.end values offs))) (ne_eqb block.start block.end ne)

  -- where a pass breaks off, the run ends as it stood before it
  pub ends_broken : (count : ℕ) (values values' offs offs' : List R) (block : Span) (k k' : Kept C) → count < limit →
      (block.start ≡ block.end → ⊥) → None ≡ pass_end rops real tolerance block.start block.end values offs →
      values' ≡ (pass_left rops real tolerance block.start block.end values offs).values →
      offs' ≡ (pass_left rops real tolerance block.start block.end values offs).offs →
      k' ≡ kept_all ops (pass_left rops real tolerance block.start block.end values offs).turns k →
      ends_from count values offs block k ≡ ended_of (no_pair count) values' offs' k'
  ends_broken count values values' offs offs' block k k' h ne e p q t =
      let s = standing_of values offs block in
      let left = pass_left rops real tolerance block.start block.end values offs in
      let same : left ≡ unturned values offs = broken_left rops real tolerance block.start block.end values offs e in
      let is : pass_of rops real tolerance s ≡ broken =
      passes values offs block ne ∙ ap (λ (o : Option ℕ). passed_to rops real tolerance o left) (sym e) in
      ap (λ (r : Ran (Standing R) (Turn R)). ended_by ops r k) (iterate_step (pass_of rops real tolerance) limit count s broken h is)
      ∙ sym (ap (λ (o : Turning R). ended_of (no_pair count) o.values o.offs (kept_all ops o.turns k)) same)
      ∙ sym (ended_same (no_pair count) _ values' _ offs' _ k' p q t)
    where
      ended_same : (a : Answer ℕ) (v v' o o' : List R) (k k' : Kept C) → v' ≡ v → o' ≡ o → k' ≡ k → ended_of a v' o' k' ≡ ended_of a v o k
      ended_same a v v' o o' k k' p q t = cc

  -- a pass and the search after it leave a run that gives the whole
  pub ends_passed : (count next : ℕ) (values values' values'' offs offs' offs'' : List R) (block block' : Span) (k k' : Kept C) → count < limit →
      (block.start ≡ block.end → ⊥) → Some next ≡ pass_end rops real tolerance block.start block.end values offs →
      values' ≡ (pass_left rops real tolerance block.start block.end values offs).values →
      offs' ≡ (pass_left rops real tolerance block.start block.end values offs).offs →
      k' ≡ kept_all ops (pass_left rops real tolerance block.start block.end values offs).turns k →
      values'' ≡ values' → offs'' ≡ offs_from rops real tolerance values' offs' next →
      block' ≡ block_from rops real tolerance values' offs' next →
      ends_from (count + 1) values'' offs'' block' k' ≡ ends_from count values offs block k
  ends_passed count next values values' values'' offs offs' offs'' block block' k k' h ne e p q t x u w =
      let s = standing_of values offs block in
      let left = pass_left rops real tolerance block.start block.end values offs in
      let found : standing_of values' offs'' block' ≡ searched rops real tolerance left.values left.offs next =
      search_same rops real tolerance next _ values' _ offs' offs'' block' p q u w in
      let is : pass_of rops real tolerance s ≡ passed (standing_of values' offs'' block') left.turns =
      passes values offs block ne ∙ ap (λ (o : Option ℕ). passed_to rops real tolerance o left) (sym e)
      ∙ ap (λ (s : Standing R). passed s left.turns) (sym found) in
      let rest = iterate (pass_of rops real tolerance) (limit - (count + 1)) (count + 1) (standing_of values' offs'' block') in
      ap (λ (v : List R). ends_from (count + 1) v offs'' block' k') x
      ∙ ap (λ (q : Kept C). ended_of rest.answer rest.left.values rest.left.offs (kept_all ops rest.made q)) t
      ∙ ap (ended_of rest.answer rest.left.values rest.left.offs) (kept_then ops left.turns rest.made k)
      ∙ sym (ap (λ (r : Ran (Standing R) (Turn R)). ended_by ops r k)
      (iterate_step (pass_of rops real tolerance) limit count s (passed (standing_of values' offs'' block') left.turns) h is))

  -- a run that begins with a search at the last off-diagonal entry
  pub run_begins : (side end : ℕ) (values values₁ offs offs₁ : List R) (block : Span) (k : Kept C) →
      end ≡ side - 1 → values₁ ≡ values → offs₁ ≡ offs_from rops real tolerance values offs end →
      block ≡ block_from rops real tolerance values offs end →
      ends_from 0 values₁ offs₁ block k
      ≡ ended_by ops (iterate (pass_of rops real tolerance) limit 0 (searched rops real tolerance values offs (side - 1))) k
  run_begins side end values values₁ offs offs₁ block k n v u w =
      let z : limit - 0 ≡ limit = omega arith in
      ap (λ (m : ℕ). ended_by ops (iterate (pass_of rops real tolerance) m 0 (standing_of values₁ offs₁ block)) k) z
      ∙ ap (λ (s : Standing R). ended_by ops (iterate (pass_of rops real tolerance) limit 0 s) k)
      (ap (λ (x : List R). standing_of x offs₁ block) v
      ∙ search_same rops real tolerance end values values offs offs offs₁ block refl refl u w
      ∙ ap (searched rops real tolerance values offs) n)

  -- what the whole run gives, from its end
  pub run_ends : (side : ℕ) (largest : R) (values offs : List R) (k : Kept C) (e : Ended C R) →
      e ≡ ended_by ops (iterate (pass_of rops real tolerance) limit 0 (searched rops real tolerance values offs (side - 1))) k →
      (e.answer ≡ (run_of rops real tolerance limit side largest values offs).answer)
      × (values_at rops largest e.answer e.values ≡ (run_of rops real tolerance limit side largest values offs).values)
      × (e.offs ≡ (run_of rops real tolerance limit side largest values offs).offs)
      × (e.kept ≡ kept_all ops (run_of rops real tolerance limit side largest values offs).turns k)
  run_ends side largest values offs k e whole = (
    ap (λ (e : Ended C R). e.answer) whole,
    ap (λ (e : Ended C R). values_at rops largest e.answer e.values) whole,
    ap (λ (e : Ended C R). e.offs) whole,
    ap (λ (e : Ended C R). e.kept) whole,
  )
