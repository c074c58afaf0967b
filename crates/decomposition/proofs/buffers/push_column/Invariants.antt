use Rattle.std.proofs.Common.{◌≡◌, ◌++◌, take, vec_items}
use Rattle.decomposition.specs.Solutions.{column_of}
use Rattle.decomposition.proofs.buffers.push_column.Given as goal

abbrev pub invariant-loop-row : goal.invariant-loop-row
invariant-loop-row g l =
    vec_items l.cells ≡
    vec_items l.initial.cells ++
    column_of g.T.Arithmetic.ops.zero (take l.row (g.K.Keeper.kept l.keeper).rows) l.column
