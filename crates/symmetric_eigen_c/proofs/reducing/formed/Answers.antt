use Rattle.std.proofs.Common.{length, sym, subst, ◌∙◌}
use Rattle.decomposition.proofs.Reducing.{reduced}
use Rattle.symmetric_eigen_c.specs.Forms.{q_of}
use Rattle.symmetric_eigen_c.proofs.Accepted.{assembled, left as leaves, q_made}
use Rattle.tridiagonal.specs.Accepted.{unless_none}
use Rattle.tridiagonal.specs.Assemble.{matrix_q}
use Rattle.tridiagonal.specs.Checks.{refusal_for}
use Rattle.tridiagonal.specs.Householder.{kind}
use Rattle.tridiagonal.specs.Outcome.{LeftOpen, refused_in}
use Rattle.tridiagonal.specs.Reduce.{largest_size, reduced_table, values_of, offs_of, signs_of}
use Rattle.tridiagonal.specs.Tables.{lower}
use Rattle.symmetric_eigen_c.proofs.reducing.formed.Goals as goal

pub returns : goal.returns
returns g c =
    let K = kind g.T.Arithmetic.ops g.T.Real.Arithmetic.ops g.T.Real.RealScalar.real in
    let n = c.args.n in
    let t = c.args.table.now in
    let v = c.args.values.now in
    let f = c.args.offs.now in
    let s = c.args.signs.now in
    let p = c.args.scratch.now in
    let q = c.args.q.now in
    let side = c.in_ok-reduction.reduction.side in
    let told = c.in_ok-reduction.ensures.run in
    let left = c.reduce.new in
    let a = reduced (refusal_for K n t v f s p) side n c.in_ok-reduction.reduction.largest (largest_size K t) told.answer in
    let lawful = assembled K n side t left.table left.signs q (length v) (length f) (length s) (length p) a.0 a.1.0
    c.reduce.auto.table c.reduce.auto.signs c.requires in
    let none = c.assemble.ensures.answer ∙ lawful in
    let why = refused_in c.assemble.result in
    let table = told.table ∙ unless_none _ t (reduced_table K n t) a.0 in
    let signs = told.signs ∙ unless_none _ s (signs_of K n t) a.0 in
    record {
      answer = none ∙ sym a.0;
      table = leaves why t (reduced_table K n t) left.table none table;
      values = leaves why v (values_of K n t) left.values none (told.values ∙ unless_none _ v (values_of K n t) a.0);
      offs = leaves why f (offs_of K n t) left.offs none (told.offs ∙ unless_none _ f (offs_of K n t) a.0);
      signs = leaves why s (signs_of K n t) left.signs none signs;
      scratch = subst (λ w. LeftOpen w p left.scratch) (a.0 ∙ sym none) told.scratch;
      q =
          leaves why q (q_of K n t) c.assemble.new.q none
          (c.assemble.ensures.q ∙ unless_none _ q (matrix_q K side (lower side 0 side left.table) left.signs) lawful
          ∙ q_made K n side t left.table left.signs a.1.0 table signs);
    }
