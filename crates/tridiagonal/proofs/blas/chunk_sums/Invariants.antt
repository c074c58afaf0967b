use Rattle.std.proofs.Common.{◌≡◌, ◌-◌, ◌*◌, ◌/◌, length, drop}
use Rattle.tridiagonal.specs.Blas.{no_sums, running_sums}
use Rattle.tridiagonal.proofs.blas.chunk_sums.Given as goal

-- The chunks that are left, with the sums so far, give the sums of all.
abbrev pub invariant-loop-k : goal.invariant-loop-k
invariant-loop-k g l =
    running_sums g.T.Arithmetic.ops (length l.x / 8 - l.k) l.sums (drop (8 * l.k) l.x) (drop (8 * l.k) l.y) ≡
    running_sums g.T.Arithmetic.ops (length l.x / 8) (no_sums g.T.Arithmetic.ops) l.x l.y
