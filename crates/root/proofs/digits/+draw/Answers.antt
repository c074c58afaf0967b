use Rattle.std.proofs.Common.{ℕ, ◌+◌, ◌*◌, ◌/◌, ◌∙◌, ap, subst, sym, arith}
use Rattle.root.specs.Whole.{Floor}
use Rattle.root.proofs.Drawing.{weights, stepped}
use Rattle.root.proofs.digits.+draw.Goals as goal

pub draw-requires : goal.draw-requires
draw-requires t c =
    let a = c.args in
    let h = c.requires in
    let n = stepped a.twice a.tail a.bit a.left c.digit-next.result (omega arith) h.even h.weight h.rest c.digit-next.ensures in
    let e = weights a.left (omega arith) in
    (omega arith, (n.even, (omega (arith, h.weight), (n.less, omega (arith, n.small, h.small)))))

pub returns : goal.returns
returns t c =
    let a = c.args in
    let h = c.requires in
    let n = stepped a.twice a.tail a.bit a.left c.digit-next.result (omega arith) h.even h.weight h.rest c.digit-next.ensures in
    subst (λ (x : ℕ). Floor x c.draw.result)
    (n.same ∙ ap (λ (x : ℕ). a.twice / 2 * (a.twice / 2) + a.tail * x / 2) (sym (weights a.left (omega arith))))
    c.draw.ensures
