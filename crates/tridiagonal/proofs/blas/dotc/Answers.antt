use Rattle.std.proofs.Common.{◌≡◌, ◌-◌, ◌%◌, ◌/◌, length, drop, sym, ap, ◌∙◌}
use Rattle.std.specs.Iterator.Adapters.{zip_first, zip_second}
use Rattle.std.specs.Slice.Iter.{iter_rest}
use Rattle.std.proofs.lemmas.Slice.Zip.{Zip-more, either_empty_from_Zip}
use Rattle.tridiagonal.specs.Blas.{no_sums, gathered, running_sums, dotc_of}
use Rattle.tridiagonal.proofs.Dots.{products_more, products_end}
use Rattle.tridiagonal.proofs.blas.dotc.Goals as goal

pub loop-u-init : goal.loop-u-init
unfolding dotc_of
loop-u-init g c =
    let o = g.T.Arithmetic.ops in
    let x = c.args.x.now in
    let y = c.args.y.now in
    let it = c.into_iter-u-iterator.result in
    let left_x : iter_rest (zip_first it) ≡ drop (length x - length x % 8) x = cc in
    let left_y : iter_rest (zip_second it) ≡ drop (length x - length x % 8) y = cc in
    let sum : c.gather-sum.result ≡ gathered o (running_sums o (length x / 8) (no_sums o) x y) =
    c.gather-sum.ensures ∙ ap (gathered o) c.chunk_sums.ensures in
    rw (left_x, left_y, sum)

pub loop-u-preserved : goal.loop-u-preserved
loop-u-preserved g c =
    let step = Zip-more c.loop-u.u-iterator c.next.new.self c.next.result (c.in-Some.u, c.in-Some.v) c.in-Some.is c.next.ensures.steps in
    products_more g.T.Arithmetic.ops c.loop-u.sum c.plus_product-sum.result c.in-Some.u.now c.in-Some.v.now _ _ _ _
    step.0 step.1 c.plus_product-sum.ensures ∙ c.loop-u.invariant

pub returns : goal.returns
returns g c =
    let none = either_empty_from_Zip c.loop-u.u-iterator c.next.new.self c.next.result c.in-None.is c.next.ensures.steps in
    sym (products_end g.T.Arithmetic.ops c.loop-u.sum _ _ none) ∙ c.loop-u.invariant
