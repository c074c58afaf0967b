use Rattle.std.proofs.Common.{◌<◌, ◌-◌, sym, refl, ap, ◌∙◌, arith, rules}
use Rattle.rows.specs.Turns.{turn_of}
use Rattle.rows.specs.declared.direction.Direction.TheVariants.{Back}
use Rattle.eigen.specs.Turnings.{left_by}
use Rattle.eigen.specs.Chases.{chase_from}
use Rattle.eigen.proofs.Turned.{chase_again, chase_done, chase_left, chase_over, turned_width}
use Rattle.eigen.proofs.chase.chase.Goals as goal

pub chase-init : goal.chase-init
chase-init g c =
    let block = c.args.block in
    let form = c.args.form.now in
    record {
      whole = ap (λ b. left_by g.T.Arithmetic.ops (chase_from g.T.Real.Arithmetic.ops g.T.Real.RealScalar.real block.start block.end
          (block.end - block.start) block.start b form.values.now form.offs.now) (g.K.Keeper.kept c.args.keeper.now))
          c.first_bulge-bulge.ensures.bulge;
      width = refl;
      same = search rules;
      lent = refl;
    }

pub chase-preserved : goal.chase-preserved
chase-preserved g c =
    let k = g.K.Keeper.kept c.chase.keeper in
    let wide : c.args.block.end < k.width = omega (arith, c.chase.invariant.width) in
    record {
      whole = chase_again g.T.Arithmetic.ops g.T.Real.Arithmetic.ops g.T.Real.RealScalar.real c.args.block.start c.args.block.end
          c.chase.i c.in-Some.found c.chase.bulge _ c.chase.form.values.now _ c.chase.form.offs.now _ k _ (omega arith) wide
          c.in-Some.ensures.rotation c.step-bulge.ensures.bulge c.step-bulge.ensures.values
          c.step-bulge.ensures.offs c.turn_back.ensures.rows
          ∙ c.chase.invariant.whole;
      width = turned_width g.T.Arithmetic.ops (turn_of c.chase.i c.in-Some.found.rotation.c c.in-Some.found.rotation.s Back) k _
          (g.K.Keeper.kept c.args.keeper.now) c.turn_back.ensures.rows c.chase.invariant.width;
      same = search rules;
      lent = c.turn_back.ensures.lent ∙ c.chase.invariant.lent;
    }

pub returns-after-chase : goal.returns-after-chase
returns-after-chase g c =
    let over = chase_over g.T.Real.Arithmetic.ops g.T.Real.RealScalar.real c.args.block.start c.args.block.end c.chase.i
    c.chase.bulge c.chase.form.values.now c.chase.form.offs.now (omega arith) in
    let whole = sym (chase_done g.T.Arithmetic.ops c.chase.form.values.now c.chase.form.offs.now (g.K.Keeper.kept c.chase.keeper) _ over)
    ∙ c.chase.invariant.whole in
    record {
      values = ap (λ l. l.values) whole;
      offs = ap (λ l. l.offs) whole;
      same = c.chase.invariant.same;
      rows = ap (λ l. l.kept) whole;
      lent = c.chase.invariant.lent;
    }

pub returns-in_default : goal.returns-in_default
returns-in_default g c =
    let left = chase_left g.T.Real.Arithmetic.ops g.T.Real.RealScalar.real c.args.block.start c.args.block.end _ c.chase.i
    c.chase.bulge c.chase.form.values.now c.chase.form.offs.now (sym c.in_default.is ∙ c.cancel_y.ensures.rotation) in
    let whole = sym (chase_done g.T.Arithmetic.ops c.chase.form.values.now c.chase.form.offs.now (g.K.Keeper.kept c.chase.keeper) _ left)
    ∙ c.chase.invariant.whole in
    record {
      values = ap (λ l. l.values) whole;
      offs = ap (λ l. l.offs) whole;
      same = c.chase.invariant.same;
      rows = ap (λ l. l.kept) whole;
      lent = c.chase.invariant.lent;
    }
