use Rattle.std.proofs.Common.{◌≡◌, ◌-◌, ◌*◌, drop}
use Rattle.tridiagonal.specs.Assemble.{assembled_from}
use Rattle.tridiagonal.specs.Householder.{kind}
use Rattle.tridiagonal.specs.Tables.{lower}
use Rattle.tridiagonal.proofs.table.Table.assemble_q.Given as goal

-- The columns from i on are done.
abbrev pub invariant-loop-i : goal.invariant-loop-i
invariant-loop-i g l =
    l.q ≡ assembled_from (kind g.T.Arithmetic.ops g.T.Real.Arithmetic.ops g.T.Real.RealScalar.real) l.self.n l.i
    (lower l.self.n l.i (l.self.n - l.i) (drop (l.i * l.self.n) l.self.entries.now)) (drop l.i l.signs)
