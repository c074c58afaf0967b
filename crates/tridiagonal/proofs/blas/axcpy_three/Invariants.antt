use Rattle.std.proofs.Common.{◌≡◌, ◌++◌, take, drop}
use Rattle.tridiagonal.specs.Blas.{axcpy_of}
use Rattle.tridiagonal.proofs.blas.axcpy_three.Given as goal

abbrev pub invariant-loop-i : goal.invariant-loop-i
invariant-loop-i g l =
    let o = g.T.Arithmetic.ops in
    take l.i l.y ++
    axcpy_of o l.d (drop l.i l.w) o.one (axcpy_of o l.b (drop l.i l.w) o.one (axcpy_of o l.a (drop l.i l.x) o.one (drop l.i l.y))) ≡
    axcpy_of o l.d l.w o.one (axcpy_of o l.b l.w o.one (axcpy_of o l.a l.x o.one l.initial.y))
