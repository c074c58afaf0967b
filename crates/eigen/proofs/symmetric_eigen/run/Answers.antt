use Rattle.std.proofs.Common.{◌≡◌, ◌≤◌, length, None, Some, Err, sym, refl, ap, ◌∙◌, arith, rules}
use Rattle.std.proofs.lemmas.Result.{err_from_is_err_and}
use Rattle.std.specs.Option.{ok_or}
use Rattle.std.specs.Result.{result_ok}
use Rattle.fault.specs.declared.Fault.TheVariants.{Pair}
use Rattle.rows.specs.Keepers.{answered}
use Rattle.eigen.specs.Iterate.{settled, not_settled, no_pair}
use Rattle.eigen.specs.Blocks.{block_in}
use Rattle.eigen.specs.Passes.{pass_end}
use Rattle.eigen.proofs.Running.{ended_of, ends_from, ends_over, ends_single, ends_broken, ends_passed, run_begins, run_ends, pass_falls}
use Rattle.eigen.proofs.symmetric_eigen.run.Goals as goal

pub passes-init : goal.passes-init
passes-init g c =
    let form = c.args.form.now in
    let first = c.delimit_subproblem-block in
    record {
      whole = run_begins g.T.Arithmetic.ops g.T.Real.Arithmetic.ops g.T.Real.RealScalar.real c.args.tolerance c.args.limit
          (length form.values.now) (length form.offs.now) form.values.now first.new.self.values.now form.offs.now
          first.new.self.offs.now (block_in first.result) (g.K.Keeper.kept c.args.keeper.now) (omega (arith, form.lengths))
          first.ensures.values first.ensures.offs first.ensures.block;
      width = refl;
      inside = omega (arith, first.ensures.below, first.ensures.same.length);
      same = first.ensures.same;
      lent = refl;
    }

pub returns-in_default : goal.returns-in_default
returns-in_default g c =
    let o = g.T.Arithmetic.ops in
    let p = g.T.Real.Arithmetic.ops in
    let q = g.T.Real.RealScalar.real in
    let form = c.args.form.now in
    let end = run_ends o p q c.args.tolerance c.args.limit (length form.values.now) c.args.largest form.values.now form.offs.now
    (g.K.Keeper.kept c.args.keeper.now)
    (ended_of (settled c.passes.count) c.passes.form.values.now c.passes.form.offs.now (g.K.Keeper.kept c.passes.keeper))
    (sym (ends_single o p q c.args.tolerance c.args.limit c.passes.count c.passes.form.values.now c.passes.form.offs.now
    (block_in c.passes.block) (g.K.Keeper.kept c.passes.keeper) c.passes-test.true
    (ap (λ b. (block_in b).start) c.in_default.is ∙ sym (ap (λ b. (block_in b).end) c.in_default.is))) ∙ c.passes.invariant.whole) in
    record {
      answer = end.0;
      values = c.scale_values.ensures.values ∙ end.1;
      offs = end.2;
      same = search rules;
      rows = end.3;
      lent = c.passes.invariant.lent;
    }

pub returns-in_err-end : goal.returns-in_err-end
returns-in_err-end g c =
    let o = g.T.Arithmetic.ops in
    let p = g.T.Real.Arithmetic.ops in
    let q = g.T.Real.RealScalar.real in
    let form = c.args.form.now in
    let found = c.in-Some.found in
    let whole = ap (λ b. ends_from o p q c.args.tolerance c.args.limit c.passes.count c.passes.form.values.now c.passes.form.offs.now
    (block_in b) (g.K.Keeper.kept c.passes.keeper)) (sym c.in-Some.is) ∙ c.passes.invariant.whole in
    let none : c.pass.result ≡ None = c.ok_or.ensures.ok_part ∙ ap result_ok c.in_err-end.was in
    let end = run_ends o p q c.args.tolerance c.args.limit (length form.values.now) c.args.largest form.values.now form.offs.now
    (g.K.Keeper.kept c.args.keeper.now)
    (ended_of (no_pair c.passes.count) c.pass.new.form.values.now c.pass.new.form.offs.now (g.K.Keeper.kept c.pass.new.keeper))
    (sym (ends_broken o p q c.args.tolerance c.args.limit c.passes.count c.passes.form.values.now c.pass.new.form.values.now
    c.passes.form.offs.now c.pass.new.form.offs.now (block_in (Some found)) (g.K.Keeper.kept c.passes.keeper)
    (g.K.Keeper.kept c.pass.new.keeper) c.passes-test.true (λ e. omega (arith, e, found.ordered)) (sym none ∙ c.pass.ensures.end)
    c.pass.ensures.values c.pass.ensures.offs c.pass.ensures.rows) ∙ whole) in
    let back = err_from_is_err_and c.from_residual.result c.from_residual.ensures.1 in
    record {
      answer = ap answered (back.1 ∙ ap Err back.2 ∙ sym c.in_err-end.was ∙ c.ok_or.ensures.value
          ∙ ap (λ x. ok_or x (Pair c.passes.count)) none) ∙ end.0;
      values = end.1;
      offs = end.2;
      same = search rules;
      rows = end.3;
      lent = c.pass.ensures.lent ∙ c.passes.invariant.lent;
    }

pub passes-preserved : goal.passes-preserved
passes-preserved g c =
    let o = g.T.Arithmetic.ops in
    let p = g.T.Real.Arithmetic.ops in
    let q = g.T.Real.RealScalar.real in
    let found = c.in-Some.found in
    let whole = ap (λ b. ends_from o p q c.args.tolerance c.args.limit c.passes.count c.passes.form.values.now c.passes.form.offs.now
    (block_in b) (g.K.Keeper.kept c.passes.keeper)) (sym c.in-Some.is) ∙ c.passes.invariant.whole in
    let some : Some c.in_ok-end.end ≡ pass_end p q c.args.tolerance found.start found.end
    c.passes.form.values.now c.passes.form.offs.now =
    sym (c.ok_or.ensures.ok_part ∙ ap result_ok c.in_ok-end.was) ∙ c.pass.ensures.end in
    let next = c.delimit_subproblem-block-in-passes in
    let ends = ap (λ b. (block_in b).end) c.in-Some.is in
    let falls : c.in_ok-end.end ≤ found.end = pass_falls p q c.args.tolerance found.start found.end
    c.in_ok-end.end c.passes.form.values.now c.passes.form.offs.now some in
    record {
      whole = ends_passed o p q c.args.tolerance c.args.limit c.passes.count c.in_ok-end.end c.passes.form.values.now
          c.pass.new.form.values.now next.new.self.values.now c.passes.form.offs.now c.pass.new.form.offs.now
          next.new.self.offs.now (block_in (Some found)) (block_in next.result) (g.K.Keeper.kept c.passes.keeper)
          (g.K.Keeper.kept c.pass.new.keeper) c.passes-test.true (λ e. omega (arith, e, found.ordered)) some
          c.pass.ensures.values c.pass.ensures.offs c.pass.ensures.rows next.ensures.values next.ensures.offs next.ensures.block
          ∙ whole;
      width = ap (λ k. k.width) c.pass.ensures.rows ∙ c.passes.invariant.width;
      inside = omega (arith, ends, falls, c.passes.invariant.inside, next.ensures.below, next.ensures.same.length, c.pass.ensures.same.length);
      same = search rules;
      lent = c.pass.ensures.lent ∙ c.passes.invariant.lent;
    }

pub returns : goal.returns
returns g c =
    let o = g.T.Arithmetic.ops in
    let p = g.T.Real.Arithmetic.ops in
    let q = g.T.Real.RealScalar.real in
    let form = c.args.form.now in
    let end = run_ends o p q c.args.tolerance c.args.limit (length form.values.now) c.args.largest form.values.now form.offs.now
    (g.K.Keeper.kept c.args.keeper.now)
    (ended_of (not_settled c.args.limit) c.passes.form.values.now c.passes.form.offs.now (g.K.Keeper.kept c.passes.keeper))
    (sym (ends_over o p q c.args.tolerance c.args.limit c.passes.count c.passes.form.values.now c.passes.form.offs.now (block_in c.passes.block)
    (g.K.Keeper.kept c.passes.keeper) c.passes.auto.count-end c.passes-test.false) ∙ c.passes.invariant.whole) in
    record {
      answer = end.0;
      values = end.1;
      offs = end.2;
      same = search rules;
      rows = end.3;
      lent = c.passes.invariant.lent;
    }
