use Rattle.job.proofs.Gathers.{blank_gathered}
use Rattle.job.proofs.job.Job.open.Goals as goal

pub invariant_of-result-clause-gathered : goal.invariant_of-result-clause-gathered
invariant_of-result-clause-gathered g c =
    rw (c.in_ok-cells.ensures, c.size.ensures.value, c.zero.ensures.value)
    (blank_gathered g.T.Arithmetic.ops g.T.Real.RealScalar.real c.size.ensures.laws c.args.side)
