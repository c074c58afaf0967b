use Rattle.std.proofs.Common.{◌≡◌, ◌-◌, ◌*◌, ◌++◌, take, drop}
use Rattle.tridiagonal.specs.Assemble.{reflected_columns}
use Rattle.tridiagonal.specs.Householder.{kind}
use Rattle.tridiagonal.proofs.matrix_q.reflect_columns.Given as goal

abbrev pub invariant-loop-j : goal.invariant-loop-j
invariant-loop-j g l =
    take (l.j * l.n) l.q ++
    reflected_columns (kind g.T.Arithmetic.ops g.T.Real.Arithmetic.ops g.T.Real.RealScalar.real) l.n l.r l.axis l.sign
    (l.m - l.j) (drop (l.j * l.n) l.q) ≡
    reflected_columns (kind g.T.Arithmetic.ops g.T.Real.Arithmetic.ops g.T.Real.RealScalar.real) l.n l.r l.axis l.sign
    l.m l.initial.q
