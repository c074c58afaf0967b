use Rattle.std.proofs.Common.{◌≡◌, suc, ◌+◌, ◌-◌, ◌*◌, ◌<◌, ◌≤◌, length, ap, ◌∙◌, arith, length-drop}
use Rattle.std.proofs.lemmas.List.{take_rest}
use Rattle.tridiagonal.specs.Householder.{kind}
use Rattle.tridiagonal.proofs.Columns.{column_next, columns_split}
use Rattle.tridiagonal.proofs.Reduced.{table_step, norms_step, table_end, norms_end}
use Rattle.tridiagonal.proofs.symmetric_tridiagonal.reduce_columns.Goals as goal

pub step-requires-clause-held : goal.step-requires-clause-held
step-requires-clause-held g c =
    let n = c.args.n in let i = c.loop-i.i in let T = c.loop-i.table in
    let whole = columns_split i n (omega arith) in
    ap length (take_rest T (i * n)) ∙ length-drop (i * n) T ∙ (let t_same = c.loop-i.auto.table in omega arith)

pub loop-i-preserved : goal.loop-i-preserved
loop-i-preserved g c =
    let K = kind g.T.Arithmetic.ops g.T.Real.Arithmetic.ops g.T.Real.RealScalar.real in
    let n = c.args.n in let i = c.loop-i.i in let T = c.loop-i.table in
    let t_same = c.loop-i.auto.table in let s_same = c.loop-i.auto.signs in
    let whole = columns_split i n (omega arith) in
    let some : i + 1 < n = omega arith in
    let held' : i * n + (n - i) * n ≤ length T = omega arith in
    let steps : n - 1 - i ≡ suc (n - 1 - (i + 1)) = omega arith in
    let rest : n - (i + 1) ≡ n - i - 1 = omega arith in
    let within : i < length c.loop-i.signs = omega arith in (
      table_step K n i (i * n) ((i + 1) * n) (n - 1 - (i + 1)) (n - 1 - i) (n - (i + 1)) T c.step.new.t some (column_next i n)
          held' steps rest c.step.ensures.table ∙ c.loop-i.invariant.0,
      norms_step K n i (i * n) ((i + 1) * n) (n - 1 - (i + 1)) (n - 1 - i) (n - (i + 1)) T c.step.new.t some (column_next i n)
          held' steps rest c.step.ensures.table c.loop-i.signs c.step.new.axis c.step.result within
          c.step.auto.axis c.step.ensures.norm ∙ c.loop-i.invariant.1,
    )

pub returns : goal.returns
returns g c =
    let K = kind g.T.Arithmetic.ops g.T.Real.Arithmetic.ops g.T.Real.RealScalar.real in
    let n = c.args.n in let i = c.loop-i.i in let T = c.loop-i.table in
    let none : n - 1 - i ≡ 0 = omega arith in
    let all : i + (n - i) ≡ n = omega arith in
    let full : length c.loop-i.signs ≤ i = let s_same = c.loop-i.auto.signs in omega arith in
    record {
      table = table_end K n i (i * n) (n - 1 - i) (n - i) none all T ∙ c.loop-i.invariant.0;
      signs = norms_end K n i (i * n) (n - 1 - i) (n - i) none all T c.loop-i.signs full ∙ c.loop-i.invariant.1;
    }
