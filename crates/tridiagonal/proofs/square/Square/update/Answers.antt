use Rattle.std.proofs.Common.{◌≡◌, ◌-◌, ap, ◌∙◌, rules}
use Rattle.tridiagonal.specs.Householder.{kind}
use Rattle.tridiagonal.specs.Tridiagonal.{two, minus_one}
use Rattle.tridiagonal.proofs.Steps.{three_updates_put}
use Rattle.tridiagonal.proofs.square.Square.update.Goals as goal

pub returns : goal.returns
returns g c =
    let K = kind g.T.Arithmetic.ops g.T.Real.Arithmetic.ops g.T.Real.RealScalar.real in
    let n = c.args.self.now.n in let k = c.args.self.now.k in let t = c.args.self.now.cells.now in
    let is_two : c.from_real-two.result ≡ two K =
    c.from_real-two.ensures.value ∙ ap K.ops.embed (c.TWO.ensures ∙ g.met.T.Real.RealScalar.two_is) in
    let is_less : c.neg-minus_one.result ≡ minus_one K = c.neg-minus_one.ensures.value ∙ ap K.ops.neg c.one.ensures.value in
    let factor = c.mul.ensures.value ∙ ap (λ d. K.ops.mul d c.from_real-two.result) c.dotc-dot.ensures in
    record {
      cells = three_updates_put K n k (n - k) t c.hegerc_three.new.self.cells.now c.args.axis.now c.hegemv.new.p
          c.from_real-two.result c.neg-minus_one.result c.mul.result is_two is_less c.hegemv.ensures factor
          c.hegerc_three.ensures.table;
      same = search rules;
    }
