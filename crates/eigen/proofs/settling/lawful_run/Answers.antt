use Rattle.std.proofs.Common.{◌≡◌, length, rules}
use Rattle.rows.specs.Keepers.{answered}
use Rattle.eigen.specs.Laws.{IsRun, start_of, finish_of}
use Rattle.eigen.proofs.Agreement.{any_keeper, limits, begun_run}
use Rattle.eigen.proofs.Uppers.{any_upper}
use Rattle.eigen.proofs.settling.lawful_run.Goals as goal

pub returns : goal.returns
returns g c =
    let o = g.T.Arithmetic.ops in
    let p = g.T.Real.Arithmetic.ops in
    let q = g.T.Real.RealScalar.real in
    let values = c.args.form.now.values.now in
    let n = c.args.limit in
    let s = start_of c.args.reduction.now values c.args.form.now.offs.now c.args.tolerance (g.K.Keeper.kept c.args.keeper.now) in
    let f = finish_of (answered c.run.result) c.run.new.form.values.now c.run.new.form.offs.now (g.K.Keeper.kept c.run.new.keeper) in
    let side : length values ≡ c.args.reduction.now.side = search rules in
    let r : IsRun o p q s n f =
    begun_run o p q s n c.largest.result f c.requires side c.largest.ensures.value c.run.ensures.answer c.run.ensures.values
    c.run.ensures.offs c.run.ensures.rows in
    record {
      run = r;
      any_keeper = any_keeper o p q s n f r;
      any_upper = any_upper o p q s n f r;
      any_limit = limits o p q s n f r;
      same = c.run.ensures.same;
      lent = c.run.ensures.lent;
    }
