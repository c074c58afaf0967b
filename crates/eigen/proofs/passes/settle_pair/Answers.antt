use Rattle.eigen.proofs.Turned.{pair_none}
use Rattle.eigen.proofs.passes.settle_pair.Goals as goal

pub returns-in_err-eigenvalues-clause-rows : goal.returns-in_err-eigenvalues-clause-rows
returns-in_err-eigenvalues-clause-rows g c =
    pair_none g.T.Arithmetic.ops g.T.Real.Arithmetic.ops g.T.Real.RealScalar.real c.args.tolerance c.args.start
    c.args.form.now.values.now c.args.form.now.offs.now (g.K.Keeper.kept c.args.keeper.now) _ c.in_err-eigenvalues.ensures.pair
