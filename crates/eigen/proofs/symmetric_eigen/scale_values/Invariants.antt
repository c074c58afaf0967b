use Rattle.std.proofs.Common.{◌≡◌, ◌++◌, map, take, drop}
use Rattle.eigen.proofs.symmetric_eigen.scale_values.Given as goal

abbrev pub invariant-loop-value : goal.invariant-loop-value
invariant-loop-value g l =
    l.values ≡ map (λ v. g.R.Arithmetic.ops.scale v l.largest) (take l.value-index l.initial.values) ++ drop
    l.value-index l.initial.values
