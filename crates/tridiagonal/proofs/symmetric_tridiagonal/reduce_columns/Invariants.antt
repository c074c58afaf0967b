use Rattle.std.proofs.Common.{◌≡◌, ◌-◌, ◌*◌, ◌++◌, take, drop}
use Rattle.tridiagonal.specs.Householder.{kind}
use Rattle.tridiagonal.specs.Tables.{lower, put}
use Rattle.tridiagonal.specs.Tridiagonal.{reduced_columns, reduced_norms}
use Rattle.tridiagonal.proofs.symmetric_tridiagonal.reduce_columns.Given as goal

-- The steps that are left give the whole table, and the norms that are left all of them.
abbrev pub invariant-loop-i : goal.invariant-loop-i
invariant-loop-i g l =
    (take (l.i * l.n) l.table ++
    put l.n l.i (l.n - l.i)
    (reduced_columns (kind g.T.Arithmetic.ops g.T.Real.Arithmetic.ops g.T.Real.RealScalar.real) (l.n - 1 - l.i)
    (lower l.n l.i (l.n - l.i) (drop (l.i * l.n) l.table)))
    (drop (l.i * l.n) l.table) ≡
    put l.n 0 l.n
    (reduced_columns (kind g.T.Arithmetic.ops g.T.Real.Arithmetic.ops g.T.Real.RealScalar.real) (l.n - 1)
    (lower l.n 0 l.n l.initial.table)) l.initial.table) ×
    (take l.i l.signs ++
    reduced_norms (kind g.T.Arithmetic.ops g.T.Real.Arithmetic.ops g.T.Real.RealScalar.real) (l.n - 1 - l.i)
    (lower l.n l.i (l.n - l.i) (drop (l.i * l.n) l.table)) ≡
    reduced_norms (kind g.T.Arithmetic.ops g.T.Real.Arithmetic.ops g.T.Real.RealScalar.real) (l.n - 1)
    (lower l.n 0 l.n l.initial.table))
