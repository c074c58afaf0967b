-- The rows so far are turned, and the others are as they were.
use Rattle.std.proofs.Common.{◌≡◌, ◌++◌, map, take, drop}
use Rattle.rows.specs.Turns.{turned}
use Rattle.rows.specs.Makes.{rows_of}
use Rattle.rows.proofs.columns.rotate.Given as goal

abbrev pub invariant-loop-r : goal.invariant-loop-r
invariant-loop-r g l =
    rows_of g.T.Arithmetic.ops.zero l.width l.count l.cells ≡
    map (turned g.T.Arithmetic.ops l.turn)
    (take l.r (rows_of g.T.Arithmetic.ops.zero l.width l.count l.initial.cells))
    ++ drop l.r (rows_of g.T.Arithmetic.ops.zero l.width l.count l.initial.cells)
