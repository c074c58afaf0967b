use Rattle.std.proofs.Common.{◌+◌, ◌-◌, ◌≤◌, length, take, drop, sym, refl, ap, ◌∙◌, arith, length-drop, length-take-le}
use Rattle.tridiagonal.specs.Householder.{kind, axis_norm}
use Rattle.tridiagonal.proofs.Steps.{below_part, step_table}
use Rattle.tridiagonal.proofs.symmetric_tridiagonal.step.Goals as goal

pub returns : goal.returns
returns g c =
    let K = kind g.T.Arithmetic.ops g.T.Real.Arithmetic.ops g.T.Real.RealScalar.real in
    let n = c.args.n in let i = c.args.i in let t = c.args.t.now in
    let report = c.reflection_axis_mut-report in
    let there : n - (i + 1) ≤ length (drop (i + 1) t) = let d = length-drop (i + 1) t in omega arith in
    let long = report.auto.column ∙ length-take-le (n - (i + 1)) (drop (i + 1) t) there in
    record {
      norm = report.ensures.norm ∙ ap (axis_norm K) (sym (below_part K n i t c.requires.some c.requires.wide));
      table = step_table K n i t c.requires.some c.requires.wide (take (n - (i + 1)) (drop (i + 1) t)) report.new.column
          c.copy_from_slice.new.self _ c.update_where.new.t report.result.reflects refl report.ensures.axis long
          report.ensures.reflects c.copy_from_slice.ensures.after refl c.update_where.ensures;
    }
