use Rattle.std.proofs.Common.{length, vec_items, ap, ◌∙◌}
use Rattle.std.specs.Vec.{with_items}
use Rattle.std.proofs.lemmas.List.{with_items_is}
use Rattle.tridiagonal.specs.Householder.{kind}
use Rattle.decomposition.proofs.Reducing.{reduces}
use Rattle.decomposition.proofs.steps.reduced.Goals as goal

pub returns : goal.returns
returns g c =
    let K = kind g.T.Arithmetic.ops g.T.Real.Arithmetic.ops g.T.Real.RealScalar.real in
    let left = c.reduce.new in
    let kept = c.reduce.auto in
    let told = c.in_ok-reduction.ensures.run in
    let made = c.in_ok-reduction.reduction in
    let rt = with_items_is c.args.table left.table (kept.table ∙ c.deref_mut.ensures.len) in
    let rv = with_items_is c.in_ok-values.values left.values (kept.values ∙ c.deref_mut-2.ensures.len) in
    let rf = with_items_is c.in_ok-offs.offs left.offs (kept.offs ∙ c.deref_mut-3.ensures.len) in
    let rs = with_items_is c.in_ok-signs.signs left.signs (kept.signs ∙ c.deref_mut-4.ensures.len) in
    record {
      form =
          reduces K c.args.n (vec_items c.args.table) c.deref_mut.result.now c.deref_mut-2.result.now
          c.deref_mut-3.result.now c.deref_mut-4.result.now c.deref_mut-5.result.now made.side made.largest
          (vec_items (with_items c.args.table left.table)) (vec_items (with_items c.in_ok-values.values left.values))
          (vec_items (with_items c.in_ok-offs.offs left.offs)) (vec_items (with_items c.in_ok-signs.signs left.signs))
          c.deref_mut.ensures.value
          (ap length c.deref_mut-2.ensures.value ∙ c.in_ok-values.ensures.count)
          (ap length c.deref_mut-3.ensures.value ∙ c.in_ok-offs.ensures.count)
          (ap length c.deref_mut-4.ensures.value ∙ c.in_ok-signs.ensures.count)
          (ap length c.deref_mut-5.ensures.value ∙ c.in_ok-scratch.ensures.count)
          made.some made.few told.answer (rt ∙ told.table) (rv ∙ told.values) (rf ∙ told.offs) (rs ∙ told.signs)
          (ap length rt ∙ kept.table) (ap length rv ∙ kept.values) (ap length rf ∙ kept.offs) (ap length rs ∙ kept.signs);
    }
