use Rattle.std.proofs.Common.{◌≡◌, ◌-◌}
use Rattle.eigen.specs.Forms.{SameBuffers}
use Rattle.eigen.specs.Turnings.{left_by}
use Rattle.eigen.specs.Chases.{chase_from, chased}
use Rattle.eigen.proofs.chase.chase.Given as goal

abbrev pub invariant-chase : goal.invariant-chase
invariant-chase g l = record {
  -- what is left of the chase gives the whole
  whole : left_by g.T.Arithmetic.ops
      (chase_from g.T.Real.Arithmetic.ops g.T.Real.RealScalar.real l.block.start l.block.end (l.block.end - l.i) l.i l.bulge
      l.form.values.now l.form.offs.now)
      (g.K.Keeper.kept l.keeper)
      ≡ left_by g.T.Arithmetic.ops
      (chased g.T.Real.Arithmetic.ops g.T.Real.RealScalar.real l.block.start l.block.end l.fn.form.values.now l.fn.form.offs.now)
      (g.K.Keeper.kept l.fn.keeper);
  width : (g.K.Keeper.kept l.keeper).width ≡ (g.K.Keeper.kept l.fn.keeper).width;
  same : SameBuffers l.fn.form l.form;
  lent : g.K.Keeper.lent l.keeper ≡ g.K.Keeper.lent l.fn.keeper;
}
