use Rattle.std.proofs.Common.{◌≡◌, ℕ, ◌+◌, ◌-◌, ◌*◌, ◌<◌, ◌≤◌, length, drop, sym, refl, ap, ◌∙◌, arith, length-drop}
use Rattle.std.proofs.lemmas.List.{take_rest}
use Rattle.tridiagonal.specs.Assemble.{assembled_from}
use Rattle.tridiagonal.specs.Householder.{kind}
use Rattle.tridiagonal.specs.Tables.{lower}
use Rattle.tridiagonal.proofs.Assembled.{assembled_none, assembled_more, assembled_all}
use Rattle.tridiagonal.proofs.Columns.{columns_split}
use Rattle.tridiagonal.proofs.table.Table.assemble_q.Goals as goal

pub loop-i-init : goal.loop-i-init
loop-i-init g c =
    let K = kind g.T.Arithmetic.ops g.T.Real.Arithmetic.ops g.T.Real.RealScalar.real in
    let n = c.args.self.now.n in let signs = c.args.signs.now in
    let full : length signs ≤ n - 1 = omega arith in
    c.identity.ensures ∙ sym (assembled_none K n (n - 1) _ signs full)

pub reflect_columns-requires-clause-held : goal.reflect_columns-requires-clause-held
reflect_columns-requires-clause-held g c =
    let n = c.args.self.now.n in let p = c.loop-i.i - 1 in let q = c.loop-i.q in
    let whole = columns_split p n (omega arith) in
    let same : length q ≡ n * n = c.loop-i.auto.q ∙ c.identity.auto.q ∙ c.requires.as_q in
    ap length (take_rest q (p * n)) ∙ length-drop (p * n) q ∙ omega arith

pub loop-i-preserved : goal.loop-i-preserved
loop-i-preserved g c =
    let K = kind g.T.Arithmetic.ops g.T.Real.Arithmetic.ops g.T.Real.RealScalar.real in
    let n = c.args.self.now.n in let i = c.loop-i.i in let p = i - 1 in
    let t = c.args.self.now.entries.now in let signs = c.args.signs.now in
    let below = c.loop-i.auto.i in
    let some : p + 1 < n = omega arith in
    let has : p < length signs = omega arith in
    let on : i ≡ p + 1 = omega arith in
    let was = c.loop-i.invariant ∙ ap (λ (m : ℕ). assembled_from K n m (lower n m (n - m) (drop (m * n) t)) (drop m signs)) on in
    assembled_more K n p t signs c.loop-i.q _ c.reflect_columns.new.q _ c.axis.result.now c.index-signs-i.result
    c.norm_sign.result some has c.index-signs-i.is c.norm_sign.ensures c.axis.ensures refl c.reflect_columns.ensures
    refl was

pub returns : goal.returns
returns g c =
    let K = kind g.T.Arithmetic.ops g.T.Real.Arithmetic.ops g.T.Real.RealScalar.real in
    let end : c.loop-i.i ≡ 0 = omega arith in
    c.loop-i.invariant ∙ assembled_all K c.args.self.now.n c.loop-i.i c.args.self.now.entries.now c.args.signs.now end
