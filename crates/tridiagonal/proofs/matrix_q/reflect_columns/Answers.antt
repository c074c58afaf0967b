use Rattle.std.proofs.Common.{◌≡◌, ℕ, ◌+◌, ◌-◌, ◌*◌, ◌≤◌, List, ◌++◌, length, take, drop, sym, ap, ◌∙◌, arith, take-append-drop, rules}
use borrow.Author.Rules.{scaled_fits≤}
use borrow.Rule.Slice.PartMut.{put_mid}
use Rattle.tridiagonal.specs.Assemble.{reflected_columns}
use Rattle.tridiagonal.specs.Householder.{kind, reflected}
use Rattle.tridiagonal.proofs.Assembled.{reflected_more, reflected_none}
use Rattle.tridiagonal.proofs.Columns.{column_held, column_next}
use Rattle.tridiagonal.proofs.matrix_q.reflect_columns.Goals as goal

pub offset_bounds-q-j : goal.offset_bounds-q-j
offset_bounds-q-j g c =
    let held = column_held c.loop-j.j c.args.m c.args.n c.loop-j-test.true in
    let same = c.loop-j.auto.q in
    let within : c.loop-j.j * c.args.n + c.args.r ≤ length c.loop-j.q = omega arith in
    search (rules, scaled_fits≤)

pub loop-j-preserved : goal.loop-j-preserved
loop-j-preserved g c =
    let K = kind g.T.Arithmetic.ops g.T.Real.Arithmetic.ops g.T.Real.RealScalar.real in
    let n = c.args.n in let j = c.loop-j.j in
    let held = column_held j c.args.m n c.loop-j-test.true in
    let same = c.loop-j.auto.q in
    let next = column_next j n in
    let ends : (j + 1) * n ≤ length c.loop-j.q = omega arith in
    let b = j * n + c.args.r in let e = j * n + n - b in let q = c.loop-j.q in
    let count : e ≡ n - c.args.r = omega arith in
    let made = ap (put_mid b e q) (c.reflect_with_sign.ensures
    ∙ ap (λ (m : ℕ). reflected K c.args.axis.now c.args.sign (take m (drop b q))) count) in
    reflected_more K n c.args.r c.args.axis.now c.args.sign c.requires.rows c.requires.as_axis j c.args.m (j * n) ((j + 1) * n) q _
    c.loop-j-test.true next ends made ∙ c.loop-j.invariant

pub returns : goal.returns
returns g c =
    let K = kind g.T.Arithmetic.ops g.T.Real.Arithmetic.ops g.T.Real.RealScalar.real in
    let n = c.args.n in let j = c.loop-j.j in let q = c.loop-j.q in
    let none : c.args.m - j ≡ 0 = omega arith in
    sym (take-append-drop (j * n) q)
    ∙ ap (λ (l : List g.row.T.Denot). take (j * n) q ++ l)
    (sym (reflected_none K n c.args.r c.args.axis.now c.args.sign c.requires.rows c.requires.as_axis (drop (j * n) q)))
    ∙ ap (λ (k : ℕ). take (j * n) q ++ reflected_columns K n c.args.r c.args.axis.now c.args.sign k (drop (j * n) q)) (sym none)
    ∙ c.loop-j.invariant
