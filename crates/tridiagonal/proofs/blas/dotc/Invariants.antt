use Rattle.std.proofs.Common.{◌≡◌}
use Rattle.std.specs.Iterator.Adapters.{zip_first, zip_second}
use Rattle.std.specs.Slice.Iter.{iter_rest}
use Rattle.tridiagonal.specs.Blas.{dotc_of, plus_products}
use Rattle.tridiagonal.proofs.blas.dotc.Given as goal

-- The entries that are left, with the sum so far, give the whole.
abbrev pub invariant-loop-u : goal.invariant-loop-u
invariant-loop-u g l =
    plus_products g.T.Arithmetic.ops l.sum (iter_rest (zip_first l.u-iterator)) (iter_rest (zip_second l.u-iterator)) ≡
    dotc_of g.T.Arithmetic.ops l.x l.y
