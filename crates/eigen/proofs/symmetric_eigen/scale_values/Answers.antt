use Rattle.std.proofs.Common.{◌≡◌, ℕ, ◌≤◌, List, ◌++◌, map, length, take, drop, set, sym, ap, ◌∙◌, ap₂, append-nil}
use Rattle.std.proofs.lemmas.List.Edits.{map_over_more}
use Rattle.std.proofs.lemmas.List.{take_all, drop_all}
use Rattle.eigen.proofs.symmetric_eigen.scale_values.Goals as goal

map_all : {X : Type 0} (f : X → X) (xs ys : List X) (i : ℕ) → length xs ≤ i → ys ≡ map f (take i xs) ++ drop i xs → ys ≡ map f xs
map_all f xs ys i h e = e ∙ ap₂ (λ ps qs. map f ps ++ qs) (take_all i xs h) (drop_all i xs h) ∙ append-nil (map f xs)

pub loop-value-preserved : goal.loop-value-preserved
loop-value-preserved g c =
    ap (set c.loop-value.values c.loop-value.value-index)
    (c.scale.ensures.value ∙ ap (λ v. g.R.Arithmetic.ops.scale v c.args.largest) (sym c.value-item.is))
    ∙ map_over_more (λ v. g.R.Arithmetic.ops.scale v c.args.largest) c.args.values.now c.loop-value.values
    c.loop-value.value-index c.value-item.result c.loop-value-test.true c.loop-value.invariant c.value-item.is

pub returns : goal.returns
returns g c = record {
  values = map_all _ c.args.values.now c.loop-value.values c.loop-value.value-index
      c.loop-value-test.false c.loop-value.invariant;
}
