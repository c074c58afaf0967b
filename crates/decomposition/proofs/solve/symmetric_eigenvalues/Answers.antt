use Rattle.std.proofs.Common.{false, vec_items, sym, ap, ◌∙◌}
use Rattle.std.proofs.lemmas.Option.{none-some}
use Rattle.tridiagonal.specs.Householder.{kind}
use Rattle.decomposition.specs.Forms.{form_of}
use Rattle.decomposition.specs.Solutions.{given_room, had_room}
use Rattle.decomposition.proofs.Reducing.{side_refusal, table_whole}
use Rattle.decomposition.proofs.Settling.{settled_with_none}
use Rattle.decomposition.proofs.Whole.{solves}
use Rattle.decomposition.proofs.solve.symmetric_eigenvalues.Goals as goal

pub returns-clause-solution : goal.returns-clause-solution
returns-clause-solution g c =
    let K = kind g.T.Arithmetic.ops g.T.Real.Arithmetic.ops g.T.Real.RealScalar.real in
    let f = form_of c.in_ok-form.form in
    let told = c.in_ok-form.ensures.form in
    c.solved.ensures.solution
    ∙ ap (given_room (had_room c.solved.result))
    (settled_with_none K f c.args.tolerance c.args.limit c.new-keeper.result.width
    ∙ solves K c.args.n (vec_items c.args.table) c.args.tolerance c.args.limit false f told.0 told.1)

pub returns-clause-refused_side : goal.returns-clause-refused_side
returns-clause-refused_side g c =
    let K = kind g.T.Arithmetic.ops g.T.Real.Arithmetic.ops g.T.Real.RealScalar.real in
    λ refused. absurd (none-some _ (sym c.in_ok-form.ensures.form.0 ∙ side_refusal K c.args.n (vec_items c.args.table) refused))

pub returns-clause-refused_length : goal.returns-clause-refused_length
returns-clause-refused_length g c =
    let K = kind g.T.Arithmetic.ops g.T.Real.Arithmetic.ops g.T.Real.RealScalar.real in
    λ lawful wrong. absurd (wrong (table_whole K c.args.n (vec_items c.args.table) c.in_ok-form.ensures.form.0))
