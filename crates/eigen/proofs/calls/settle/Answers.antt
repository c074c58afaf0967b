use Rattle.std.proofs.Common.{refl, ap}
use Rattle.fault.specs.Refusals.{refusal}
use Rattle.rows.specs.Keepers.{denied}
use Rattle.eigen.specs.Laws.{IsRun, start_of, finish_of}
use Rattle.eigen.specs.Unsettled.{back_from}
use Rattle.eigen.proofs.Agreement.{any_keeper, limits, refused_run}
use Rattle.eigen.proofs.Uppers.{any_upper}
use Rattle.eigen.proofs.calls.settle.Goals as goal

pub returns-in-Err : goal.returns-in-Err
returns-in-Err g c =
    let o = g.T.Arithmetic.ops in
    let p = g.T.Real.Arithmetic.ops in
    let q = g.T.Real.RealScalar.real in
    let kept = g.K.Keeper.kept c.args.keeper.now in
    let n = c.args.limit in
    let s = start_of c.args.reduction c.args.values.now c.args.offs.now c.args.tolerance kept in
    let f = finish_of (denied (refusal c.in-Err.fault)) c.args.values.now c.args.offs.now kept in
    let r : IsRun o p q s n f = refused_run o p q s n (refusal c.in-Err.fault) c.in-Err.ensures.answer in
    record {
      handed_back = ap (λ a. back_from a c.args.reduction.side c.args.reduction.largest) c.in-Err.ensures.answer;
      run = r;
      lent = refl;
      any_keeper = any_keeper o p q s n f r;
      any_upper = any_upper o p q s n f r;
      any_limit = limits o p q s n f r;
    }
