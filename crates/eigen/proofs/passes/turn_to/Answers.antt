use Rattle.std.proofs.Common.{sym, refl, ◌∙◌}
use Rattle.eigen.proofs.Turned.{forward_none}
use Rattle.eigen.proofs.passes.turn_to.Goals as goal

pub returns-in_default : goal.returns-in_default
returns-in_default g c = record {
  rows = forward_none g.T.Arithmetic.ops c.args.start (g.K.Keeper.kept c.args.keeper.now) _
      (sym c.in_default.is ∙ c.try_new.ensures.rotation);
  lent = refl;
}
