-- Turns one after the other, and the chase step by step.
use Rattle.std.proofs.Common.{◌≡◌, ℕ, zero, suc, ◌+◌, ◌-◌, ◌<◌, ◌≤◌, Bool, true, false, cond, List, [], ◌∷◌, ◌++◌, map, Some, None, Option, sym, refl, ap, ◌∙◌, ap₂, arith}
use mathlib.Core.Path.{fun_ext}
use mathlib.Core.List.{map-map}
use Rattle.std.proofs.lemmas.Bool.{lt-ltb}
use Rattle.scalar.specs.Ops.{Ops, RealOps}
use Rattle.rows.specs.Turns.{Turn, turned, turned_all, turn_of}
use Rattle.rows.specs.Keepers.{Kept, kept_turned, inside}
use Rattle.rows.specs.declared.direction.Direction.TheVariants.{Back}
use Rattle.eigen.specs.declared.givens.Normed.{Normed}
use Rattle.eigen.specs.declared.eigenvalues.Vector2.{Vector2}
use Rattle.eigen.specs.Givens.{cancel_y}
use Rattle.eigen.specs.Passes.{forward, pair_put}
use Rattle.eigen.specs.Turnings.{Turning, unturned, after, kept_all, left_by}
use Rattle.eigen.specs.Chases.{chase_from, chase_on, step_values, step_offs, bulge_next, bulge_offs}

module _ {C R : Type 0} (ops : Ops C R) where
  -- one turn inside the width, then a list of turns
  pub turn_then : (t : Turn R) (ts : List (Turn R)) (k : Kept C) → t.column + 1 < k.width →
      kept_all ops ts (kept_turned ops t k) ≡ kept_all ops (t ∷ ts) k
  turn_then t ts k h =
      ap (λ (b : Bool). kept_all ops ts (cond b (record { width = k.width; rows = map (turned ops t) k.rows }) k)) (lt-ltb _ _ h)
      ∙ ap (λ (rows : List (List C)). record { width = k.width; rows = rows }) (map-map (turned_all ops ts) (turned ops t) k.rows)

  turn_width : (t : Turn R) (k : Kept C) → (kept_turned ops t k).width ≡ k.width
  turn_width t k = go (inside k t.column)
    where
      go : (b : Bool) → (cond b (record { width = k.width; rows = map (turned ops t) k.rows }) k).width ≡ k.width
      go true = refl
      go false = refl

  pub turned_width : (t : Turn R) (k k' k₀ : Kept C) → k' ≡ kept_turned ops t k → k.width ≡ k₀.width → k'.width ≡ k₀.width
  turned_width t k k' k₀ e w = ap (λ (q : Kept C). q.width) e ∙ turn_width t k ∙ w

  -- one list of turns after another
  turns_then : (ts us : List (Turn R)) (row : List C) → turned_all ops us (turned_all ops ts row) ≡ turned_all ops (ts ++ us) row
  turns_then [] us row = refl
  turns_then (t ∷ ts) us row = turns_then ts us (turned ops t row)

  pub kept_then : (ts us : List (Turn R)) (k : Kept C) → kept_all ops us (kept_all ops ts k) ≡ kept_all ops (ts ++ us) k
  kept_then ts us k = ap (λ (rows : List (List C)). record { width = k.width; rows = rows })
      (map-map (turned_all ops us) (turned_all ops ts) k.rows
      ∙ ap (λ (f : List C → List C). map f k.rows) (fun_ext (turns_then ts us)))

  map_same : (f : List C → List C) (rows : List (List C)) → ((row : List C) → f row ≡ row) → map f rows ≡ rows
  map_same f [] h = refl
  map_same f (row ∷ rows) h = ap₂ ◌∷◌ (h row) (map_same f rows h)

  pub turn_none : (k : Kept C) → kept_all ops [] k ≡ k
  turn_none k = ap (λ (rows : List (List C)). record { width = k.width; rows = rows }) (map_same (turned_all ops []) k.rows
      (λ row. refl))

module _ {R : Type 0} (ops : Ops R R) (real : RealOps R) (start end : ℕ) where
  -- past the end, or with nothing to cancel, the chase is left
  pub chase_over : (i : ℕ) (bulge : Vector2 R) (values offs : List R) → end ≤ i →
      chase_from ops real start end (end - i) i bulge values offs ≡ unturned values offs
  unfolding chase_from
  chase_over i bulge values offs h =
      let e : end - i ≡ 0 = omega arith in
      ap (λ (n : ℕ). chase_from ops real start end n i bulge values offs) e

  pub chase_left : (n i : ℕ) (bulge : Vector2 R) (values offs : List R) → None ≡ cancel_y ops real bulge.x bulge.y →
      chase_from ops real start end n i bulge values offs ≡ unturned values offs
  unfolding chase_from
  chase_left zero i bulge values offs h = refl
  chase_left (suc n) i bulge values offs h =
      ap (chase_on ops real start end i bulge values offs (chase_from ops real start end n (i + 1))) (sym h)

  -- what one rotation leaves to chase
  abbrev pub chase_next : ℕ → Normed R → Vector2 R → List R → List R → Turning R
  chase_next i found bulge values offs =
      chase_from ops real start end (end - (i + 1)) (i + 1)
      (bulge_next ops real end i found.rotation (step_offs ops real start i found values offs) bulge)
      (step_values ops real start i found values offs)
      (bulge_offs ops real end i found.rotation (step_offs ops real start i found values offs))

  pub chase_step : (i : ℕ) (found : Normed R) (bulge : Vector2 R) (values offs : List R) → i < end →
      Some found ≡ cancel_y ops real bulge.x bulge.y →
      chase_from ops real start end (end - i) i bulge values offs
      ≡ after (turn_of i found.rotation.c found.rotation.s Back) (chase_next i found bulge values offs)
  unfolding chase_from
  chase_step i found bulge values offs h e =
      let k : end - i ≡ suc (end - (i + 1)) = omega arith in
      ap (λ (n : ℕ). chase_from ops real start end n i bulge values offs) k
      ∙ ap (chase_on ops real start end i bulge values offs (chase_from ops real start end (end - (i + 1)) (i + 1))) (sym e)

module _ {C R : Type 0} (ops : Ops C R) (rops : Ops R R) (real : RealOps R) (start end : ℕ) where
  -- what is left by a rotation and its turn gives the whole
  pub chase_more : (i : ℕ) (found : Normed R) (bulge : Vector2 R) (values offs : List R) (k : Kept C) → i < end → end < k.width →
      Some found ≡ cancel_y rops real bulge.x bulge.y →
      left_by ops (chase_next rops real start end i found bulge values offs)
      (kept_turned ops (turn_of i found.rotation.c found.rotation.s Back) k)
      ≡ left_by ops (chase_from rops real start end (end - i) i bulge values offs) k
  chase_more i found bulge values offs k h w e =
      let o = chase_next rops real start end i found bulge values offs in
      let t = turn_of i found.rotation.c found.rotation.s Back in
      ap (λ (q : Kept C). record { values = o.values; offs = o.offs; kept = q }) (turn_then ops t o.turns k (omega arith))
      ∙ sym (ap (λ (o : Turning R). left_by ops o k) (chase_step rops real start end i found bulge values offs h e))

  same_left : (n i : ℕ) (b b' : Vector2 R) (v v' o o' : List R) (k k' : Kept C) → b' ≡ b → v' ≡ v → o' ≡ o → k' ≡ k →
      left_by ops (chase_from rops real start end n i b' v' o') k' ≡ left_by ops (chase_from rops real start end n i b v o) k
  same_left n i b b' v v' o o' k k' p q r t = cc

  pub chase_again : (i : ℕ) (found : Normed R) (bulge bulge' : Vector2 R) (values values' offs offs' : List R) (k k' : Kept C) →
      i < end → end < k.width → Some found ≡ cancel_y rops real bulge.x bulge.y →
      bulge' ≡ bulge_next rops real end i found.rotation (step_offs rops real start i found values offs) bulge →
      values' ≡ step_values rops real start i found values offs →
      offs' ≡ bulge_offs rops real end i found.rotation (step_offs rops real start i found values offs) →
      k' ≡ kept_turned ops (turn_of i found.rotation.c found.rotation.s Back) k →
      left_by ops (chase_from rops real start end (end - (i + 1)) (i + 1) bulge' values' offs') k'
      ≡ left_by ops (chase_from rops real start end (end - i) i bulge values offs) k
  chase_again i found bulge bulge' values values' offs offs' k k' h w e p q r t =
      same_left (end - (i + 1)) (i + 1) _ bulge' _ values' _ offs' _ k' p q r t
      ∙ chase_more i found bulge values offs k h w e

-- a chase that is left leaves what stands
pub chase_done : {C R : Type 0} (ops : Ops C R) (values offs : List R) (k : Kept C) (o : Turning R) → o ≡ unturned values offs →
    left_by ops o k ≡ record { values = values; offs = offs; kept = k }
chase_done {C} {R} ops values offs k o e =
    ap (λ (o : Turning R). left_by ops o k) e
    ∙ ap (λ (q : Kept C). record { values = values; offs = offs; kept = q }) (turn_none ops k)

-- a block of two with no rotation, and with no real eigenvalues
pub forward_none : {C R : Type 0} (ops : Ops C R) (start : ℕ) (k : Kept C) (o : Option (Normed R)) → None ≡ o → k ≡ kept_all ops
    (forward start o) k
forward_none {C} {R} ops start k o e =
    sym (turn_none ops k) ∙ ap (λ (o : Option (Normed R)). kept_all ops (forward start o) k) e

pub pair_none : {C R : Type 0} (ops : Ops C R) (rops : Ops R R) (real : RealOps R) (tolerance : R) (start : ℕ) (values offs : List R)
    (k : Kept C) (o : Option (Vector2 R)) → None ≡ o → k ≡ kept_all ops (pair_put rops real tolerance start values offs o).turns k
pair_none {C} {R} ops rops real tolerance start values offs k o e =
    sym (turn_none ops k) ∙ ap (λ (o : Option (Vector2 R)). kept_all ops (pair_put rops real tolerance start values offs o).turns k) e
