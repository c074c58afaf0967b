use Rattle.std.proofs.Common.{◌≡◌, ℕ, ◌+◌, ◌-◌, ◌*◌, ◌/◌, length, take, drop, sym, ap, ◌∙◌, arith}
use Rattle.tridiagonal.specs.Blas.{eight_more}
use Rattle.tridiagonal.proofs.Dots.{running_more, running_end}
use Rattle.tridiagonal.proofs.blas.chunk_sums.Goals as goal

pub loop-k-preserved : goal.loop-k-preserved
loop-k-preserved g c =
    let o = g.T.Arithmetic.ops in
    let k = c.loop-k.k in
    let x = c.args.x.now in
    let y = c.args.y.now in
    let eight : 8 * k + 8 - 8 * k ≡ 8 = omega arith in
    let is : c.plus_products-sums.result ≡ eight_more o c.loop-k.sums (take 8 (drop (8 * k) x)) (take 8 (drop (8 * k) y)) =
    c.plus_products-sums.ensures ∙ ap (λ (m : ℕ). eight_more o c.loop-k.sums (take m (drop (8 * k) x)) (take m (drop (8 * k) y))) eight in
    running_more o (length x / 8) k c.loop-k.sums c.plus_products-sums.result x y c.loop-k-test.true is ∙ c.loop-k.invariant

pub returns : goal.returns
returns g c =
    sym (running_end g.T.Arithmetic.ops (length c.args.x.now / 8) c.loop-k.k c.loop-k.sums _ _ c.loop-k-test.false) ∙ c.loop-k.invariant
