use Rattle.std.proofs.Common.{◌≡◌, vec_items}
use Rattle.decomposition.specs.Solutions.{by_columns}
use Rattle.decomposition.proofs.buffers.columns_of.Given as goal

abbrev pub invariant-loop-column : goal.invariant-loop-column
invariant-loop-column g l =
    vec_items l.cells ≡ by_columns g.T.Arithmetic.ops.zero (g.K.Keeper.kept l.keeper).rows l.column
