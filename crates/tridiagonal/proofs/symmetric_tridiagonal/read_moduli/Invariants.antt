use Rattle.std.proofs.Common.{◌≡◌, map, take}
use Rattle.tridiagonal.proofs.symmetric_tridiagonal.read_moduli.Given as goal

abbrev pub invariant-loop-i : goal.invariant-loop-i
invariant-loop-i g l = take l.i l.offs ≡ map g.T.Arithmetic.ops.modulus (take l.i l.signs)
