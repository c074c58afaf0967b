use Rattle.std.proofs.Common.{ℕ, ◌+◌, ◌/◌, ap, ◌∙◌}
use Rattle.root.proofs.Drawing.{start, drawn, drawn_below}
use Rattle.root.proofs.digits.nearest_root.Goals as goal

pub draw-requires-clause-small : goal.draw-requires-clause-small
draw-requires-clause-small c = start c.args.digits c.requires.few

pub half_up-requires : goal.half_up-requires
half_up-requires c = drawn_below c.args.upper c.args.digits c.draw.result c.requires.half c.requires.few c.draw.ensures

pub returns : goal.returns
returns c =
    c.half_up.ensures
    ∙ ap (λ (s : ℕ). (s + 1) / 2) (drawn c.args.upper c.args.digits c.draw.result c.requires.half c.draw.ensures)
