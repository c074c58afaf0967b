use Rattle.std.proofs.Common.{ℕ, ◌*◌, length, ap, ◌∙◌}
use Rattle.std.proofs.lemmas.List.{with_items_is}
use Rattle.tridiagonal.specs.Householder.{kind}
use Rattle.decomposition.proofs.Settling.{count_columns}
use Rattle.decomposition.proofs.solve.solved.Goals as goal

pub returns-clause-counts : goal.returns-clause-counts
returns-clause-counts g c =
    let K = kind g.T.Arithmetic.ops g.T.Real.Arithmetic.ops g.T.Real.RealScalar.real in
    let kept = g.K.Keeper.kept c.args.keeper.now in
    let left = with_items_is c.args.form.values c.settle.new.values (c.settle.auto.values ∙ c.deref_mut.ensures.len) in
    record {
      values = ap length left ∙ c.settle.auto.values ∙ ap length c.deref_mut.ensures.value ∙ c.requires.fits.values;
      vectors =
          count_columns K _ _ _ _ c.settle.ensures.run c.in_ok-vectors.ensures.cells
          ∙ ap (λ (w : ℕ). w * length kept.rows) c.requires.width;
    }
