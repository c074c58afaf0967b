use Rattle.std.proofs.Common.{◌+◌, ◌%◌, ◌∙◌, arith}
use lib.Ieee.{prec}
use lib.Ieee.Digits.{size-le}
use Rattle.root.specs.Exists.{root_at_lt}
use Rattle.root.proofs.Windows.{bounds, high_is, upper_small, whole_is}
use Rattle.root.proofs.bits.root_at.Goals as goal

pub overflow_add-place : goal.overflow_add-place
overflow_add-place g c = let f = g.F.Binary.format in omega (arith, bounds f, size-le c.args.m (prec f) c.requires.few)

pub overflow_add-place-2 : goal.overflow_add-place-2
overflow_add-place-2 g c =
    let f = g.F.Binary.format in
    omega (arith, bounds f, size-le c.args.m (prec f) c.requires.few, c.RISE.ensures ∙ g.met.F.Binary.rise_is)

pub overflow_mul-result : goal.overflow_mul-result
overflow_mul-result g c =
    let f = g.F.Binary.format in
    let k = g.met.F.Binary in
    let e = high_is f c.args.m c.args.i c.size_of.ensures (c.RISE.ensures ∙ k.rise_is) (c.HIDDEN.ensures ∙ k.hidden_is) in
    let h = c.requires in
    omega (arith, (bounds f).patterns, e, root_at_lt f c.args.m c.args.i h.some h.few h.fine)

pub nearest_root-requires-clause-half : goal.nearest_root-requires-clause-half
nearest_root-requires-clause-half g c =
    upper_small c.args.m (prec g.F.Binary.format) c.DIGITS-digits.result ((c.args.i + c.size_of.result + c.RISE.result) % 2)
    c.upper_of.result (c.DIGITS-digits.ensures ∙ g.met.F.Binary.digits_is) c.requires.few (omega arith) c.upper_of.ensures

pub returns : goal.returns
returns g c =
    let f = g.F.Binary.format in
    let k = g.met.F.Binary in
    let e =
    whole_is f c.args.m c.args.i c.size_of.ensures (c.RISE.ensures ∙ k.rise_is) (c.HIDDEN.ensures ∙ k.hidden_is)
    (c.DIGITS-digits.ensures ∙ k.digits_is) c.requires.few c.upper_of.ensures c.nearest_root.ensures in
    let h = c.requires in
    record { pattern = e; finite = omega (arith, e, root_at_lt f c.args.m c.args.i h.some h.few h.fine) }

pub overflow_add-result : goal.overflow_add-result
overflow_add-result g c = let f = g.F.Binary.format in let r = returns g c in omega (arith, (bounds f).patterns, r.finite)
