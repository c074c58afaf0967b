use Rattle.std.proofs.Common.{arith}
use lib.Ieee.Digits.{size-le}
use Rattle.root.proofs.bits.upper_of.Goals as goal

pub overflow_sub-result : goal.overflow_sub-result
overflow_sub-result c = omega (arith, c.size_of.ensures, size-le c.args.m c.args.digits c.requires.few)
