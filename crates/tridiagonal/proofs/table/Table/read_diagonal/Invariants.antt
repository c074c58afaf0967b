use Rattle.std.proofs.Common.{◌≡◌, ◌-◌, ◌*◌, ◌++◌, take, drop}
use Rattle.tridiagonal.specs.Householder.{kind}
use Rattle.tridiagonal.specs.Tables.{lower}
use Rattle.tridiagonal.specs.Tridiagonal.{diagonal}
use Rattle.tridiagonal.proofs.table.Table.read_diagonal.Given as goal

abbrev pub invariant-loop-i : goal.invariant-loop-i
invariant-loop-i g l =
    take l.i l.values ++
    diagonal (kind g.T.Arithmetic.ops g.T.Real.Arithmetic.ops g.T.Real.RealScalar.real)
    (lower l.self.n l.i (l.self.n - l.i) (drop (l.i * l.self.n) l.self.entries.now)) ≡
    diagonal (kind g.T.Arithmetic.ops g.T.Real.Arithmetic.ops g.T.Real.RealScalar.real) (lower l.self.n 0 l.self.n l.self.entries.now)
