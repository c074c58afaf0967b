use Rattle.std.proofs.Common.{◌≡◌, ◌++◌, take, drop}
use Rattle.tridiagonal.specs.Blas.{unscaled}
use Rattle.tridiagonal.proofs.blas.unscale.Given as goal

abbrev pub invariant-loop-entry : goal.invariant-loop-entry
invariant-loop-entry g l =
    take l.entry-index l.x ++ unscaled g.T.Arithmetic.ops l.divisor (drop l.entry-index l.x) ≡
    unscaled g.T.Arithmetic.ops l.divisor l.initial.x
