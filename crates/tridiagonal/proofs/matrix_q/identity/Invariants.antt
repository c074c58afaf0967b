use Rattle.std.proofs.Common.{◌≡◌, ◌+◌, ◌*◌, ◌<◌, take}
use Rattle.tridiagonal.specs.Assemble.{identity_from}
use Rattle.tridiagonal.specs.Householder.{kind}
use Rattle.tridiagonal.proofs.matrix_q.identity.Given as goal

abbrev pub invariant-loop-entry : goal.invariant-loop-entry
invariant-loop-entry g l = record {
  so_far : take l.entry-index l.q ≡
      take l.entry-index (identity_from (kind g.T.Arithmetic.ops g.T.Real.Arithmetic.ops g.T.Real.RealScalar.real) l.n 0 l.n);
  inside : l.row < l.n;
  place : l.entry-index ≡ l.column * l.n + l.row;
}
