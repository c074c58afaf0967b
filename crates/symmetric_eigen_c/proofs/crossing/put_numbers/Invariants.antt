use Rattle.std.proofs.Common.{◌≡◌, map, take}
use Rattle.symmetric_eigen_c.proofs.crossing.put_numbers.Given as goal

abbrev pub invariant-loop-i : goal.invariant-loop-i
invariant-loop-i g l = take l.i l.list ≡ map g.C.Crossing.outward (take l.i l.numbers)
