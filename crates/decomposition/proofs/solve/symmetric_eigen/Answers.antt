use Rattle.std.proofs.Common.{◌≡◌, ℕ, ◌*◌, true, IfOk, length, vec_items, sym, ap, ◌∙◌, subst}
use Rattle.std.proofs.lemmas.List.{with_items_is}
use Rattle.std.proofs.lemmas.Option.{none-some}
use Rattle.rows.specs.Keepers.{Kept}
use Rattle.rows.specs.Makes.{all_rows}
use Rattle.tridiagonal.specs.Householder.{kind}
use Rattle.decomposition.specs.Forms.{Counts, form_of}
use Rattle.decomposition.specs.Solutions.{Form, given_room, had_room, solution_of}
use Rattle.decomposition.proofs.Limits.{any_limit}
use Rattle.decomposition.proofs.Lowers.{only_lower}
use Rattle.decomposition.proofs.Reducing.{side_refusal, table_whole}
use Rattle.decomposition.proofs.Settling.{assembled, held_of_q, rows_held, settled_with_q, count_of_q}
use Rattle.decomposition.proofs.Whole.{solves, same_values}
use Rattle.decomposition.proofs.solve.symmetric_eigen.Goals as goal

pub returns : goal.returns
returns g c =
    let K = kind g.T.Arithmetic.ops g.T.Real.Arithmetic.ops g.T.Real.RealScalar.real in
    let n = c.args.n in
    let f = form_of c.in_ok-form.form in
    let told = c.in_ok-form.ensures.form in
    let side : f.side ≡ n = ap (λ (f : Form _ _). f.side) told.1 in
    let keeper = c.square_rows-keeper.result in
    let kept = all_rows g.T.Arithmetic.ops.zero keeper.width keeper.count keeper.cells.now in
    let again = with_items_is c.in_ok-q.q c.assemble.new.q (c.assemble.auto.q ∙ c.deref_mut.ensures.len) in
    let is =
    c.deref_mut-2.ensures.value ∙ again
    ∙ assembled K f c.deref.result.now c.deref-2.result.now c.deref_mut.result.now c.assemble.new.q c.deref.ensures.value
    c.deref-2.ensures.value c.in_ok-assemble.ensures.answer c.in_ok-assemble.ensures.q in
    let whole =
    ap length (c.deref_mut-2.ensures.value ∙ again) ∙ c.assemble.auto.q ∙ ap length c.deref_mut.ensures.value
    ∙ c.in_ok-q.ensures.count in
    let held : kept ≡ held_of_q K f =
    rows_held K f told.2 n c.deref_mut-2.result.now kept (sym side) is whole c.square_rows-keeper.ensures.kept in
    let came =
    c.solved.ensures.solution
    ∙ ap (given_room (had_room c.solved.result))
    (settled_with_q K f c.args.tolerance c.args.limit kept held
    ∙ solves K n (vec_items c.args.table) c.args.tolerance c.args.limit true f told.0 told.1) in
    record {
      solution = came;
      refused_side = λ refused. absurd (none-some _ (sym told.0 ∙ side_refusal K n (vec_items c.args.table) refused));
      refused_length = λ lawful wrong. absurd (wrong (table_whole K n (vec_items c.args.table) told.0));
      counts =
          subst (λ (k : ℕ). IfOk c.solved.result (Counts k (k * k))) side
          (subst (λ (k : ℕ). IfOk c.solved.result (Counts f.side (f.side * k))) (ap (λ (k : Kept _). length k.rows) held ∙ count_of_q K f)
          c.solved.ensures.counts);
      same_values =
          same_values K n (vec_items c.args.table) c.args.tolerance c.args.limit (solution_of c.solved.result)
          (had_room c.solved.result) came;
      any_limit = any_limit K true n (vec_items c.args.table) c.args.tolerance c.args.limit;
      only_lower = only_lower K true n (vec_items c.args.table) c.args.tolerance c.args.limit;
    }

pub returns-in_err-q-clause-refused_length : goal.returns-in_err-q-clause-refused_length
returns-in_err-q-clause-refused_length g c =
    let K = kind g.T.Arithmetic.ops g.T.Real.Arithmetic.ops g.T.Real.RealScalar.real in
    λ lawful wrong. absurd (wrong (table_whole K c.args.n (vec_items c.args.table) c.in_ok-form.ensures.form.0))
