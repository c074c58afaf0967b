use Rattle.std.proofs.Common.{◌≡◌, ◌-◌, ◌≤◌, length}
use Rattle.eigen.specs.Blocks.{block_in}
use Rattle.eigen.specs.Forms.{SameBuffers}
use Rattle.eigen.specs.Iterate.{iterate}
use Rattle.eigen.specs.Runs.{searched, pass_of}
use Rattle.eigen.proofs.Running.{ends_from, ended_by}
use Rattle.eigen.proofs.symmetric_eigen.run.Given as goal

abbrev pub invariant-passes : goal.invariant-passes
invariant-passes g l = record {
  -- what is left of the run gives the whole
  whole : ends_from g.T.Arithmetic.ops g.T.Real.Arithmetic.ops g.T.Real.RealScalar.real l.tolerance l.limit
      l.count l.form.values.now l.form.offs.now (block_in l.block) (g.K.Keeper.kept l.keeper)
      ≡ ended_by g.T.Arithmetic.ops (iterate (pass_of g.T.Real.Arithmetic.ops g.T.Real.RealScalar.real l.tolerance) l.limit 0
      (searched g.T.Real.Arithmetic.ops g.T.Real.RealScalar.real l.tolerance l.fn.form.values.now l.fn.form.offs.now
      (length l.fn.form.values.now - 1))) (g.K.Keeper.kept l.fn.keeper);
  width : (g.K.Keeper.kept l.keeper).width ≡ (g.K.Keeper.kept l.fn.keeper).width;
  inside : (block_in l.block).end ≤ length l.form.offs.now;
  same : SameBuffers l.fn.form l.form;
  lent : g.K.Keeper.lent l.keeper ≡ g.K.Keeper.lent l.fn.keeper;
}
