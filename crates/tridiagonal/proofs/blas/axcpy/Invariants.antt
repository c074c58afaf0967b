use Rattle.std.proofs.Common.{◌≡◌, ◌++◌, take, drop}
use Rattle.tridiagonal.specs.Blas.{axcpy_of}
use Rattle.tridiagonal.proofs.blas.axcpy.Given as goal

abbrev pub invariant-loop-i : goal.invariant-loop-i
invariant-loop-i g l =
    take l.i l.y ++ axcpy_of g.T.Arithmetic.ops l.a (drop l.i l.x) l.b (drop l.i l.y) ≡
    axcpy_of g.T.Arithmetic.ops l.a l.x l.b l.initial.y
