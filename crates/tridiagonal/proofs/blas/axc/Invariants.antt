use Rattle.std.proofs.Common.{◌≡◌, ◌++◌, take, drop}
use Rattle.tridiagonal.specs.Blas.{axc_of}
use Rattle.tridiagonal.proofs.blas.axc.Given as goal

abbrev pub invariant-loop-i : goal.invariant-loop-i
invariant-loop-i g l = take l.i l.y ++ axc_of g.T.Arithmetic.ops l.a (drop l.i l.x) ≡ axc_of g.T.Arithmetic.ops l.a l.x
