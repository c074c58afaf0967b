use Rattle.std.proofs.Common.{rules, ◌≡◌, ◌-◌, Some}
use Rattle.std.proofs.iter.runs.Sources.{ranges}
use Rattle.eigen.specs.Blocks.{above}
use Rattle.eigen.proofs.Falls.{falls_to}
use Rattle.eigen.proofs.form.Tridiagonal.end_from.Goals as goal

pub returns-clause-scan : goal.returns-clause-scan
returns-clause-scan g c =
    falls_to
    (above g.R.Arithmetic.ops g.R.RealScalar.real c.args.tolerance c.args.self.now.values.now c.args.self.now.offs.now)
    _ _ (record {
      below = search (rules, ranges);
      stopped = λ m e. search (rules, ranges);
      passed = λ m k l.
          let at : c.rfind.ensures.runs.0.at (c.args.end - 1 - m) ≡ Some m = search (rules, ranges) in
          search (rules, ranges);
    })
