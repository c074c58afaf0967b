use Rattle.std.proofs.Common.{arith}
use Rattle.std.proofs.lemmas.Grind.{common_steps}
use Rattle.tridiagonal.specs.Householder.{signed_norm, axis_factor, axis_reflects, axis_norm, first_moved, axis_of}
use Rattle.tridiagonal.proofs.householder.reflection_axis_mut.Goals as goal

pub returns-then-is_zero : goal.returns-then-is_zero
unfolding signed_norm axis_factor axis_reflects axis_norm first_moved axis_of
returns-then-is_zero g c = grind (arith, common_steps)

pub returns-else-is_zero : goal.returns-else-is_zero
unfolding signed_norm axis_factor axis_reflects axis_norm first_moved axis_of
returns-else-is_zero g c = grind (arith, common_steps)
