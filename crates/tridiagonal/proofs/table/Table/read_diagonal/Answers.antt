use Rattle.std.proofs.Common.{◌≡◌, ℕ, ◌+◌, ◌-◌, ◌*◌, ◌<◌, ◌≤◌, ◌∷◌, length, get_or, take, drop, sym, ap, ◌∙◌, add-zero, arith, get_or-drop, get_or-take}
use Rattle.std.proofs.lemmas.List.{get_or_default}
use Rattle.tridiagonal.specs.Householder.{kind}
use Rattle.tridiagonal.specs.Tables.{lower}
use Rattle.tridiagonal.specs.Tridiagonal.{diagonal}
use Rattle.tridiagonal.proofs.Columns.{column_held, column_next, lower_more, lower_none}
use Rattle.tridiagonal.proofs.Writes.{write_out, written}
use Rattle.tridiagonal.proofs.table.Table.read_diagonal.Goals as goal

pub loop-i-preserved : goal.loop-i-preserved
loop-i-preserved g c =
    let K = kind g.T.Arithmetic.ops g.T.Real.Arithmetic.ops g.T.Real.RealScalar.real in
    let n = c.args.self.now.n in let i = c.loop-i.i in let t = c.args.self.now.entries.now in
    let less : i < n = omega arith in
    let all : i + (n - i) ≡ n = omega arith in
    let some : 0 < n - i = omega arith in
    let count : n - i - 1 ≡ n - (i + 1) = omega arith in
    let within : i < length c.loop-i.values = omega arith in
    let there : i * n + i < length t = let held = column_held i n n less in omega arith in
    let first = take (n - i) (drop (i * n + i) t) in
    let entry : get_or first 0 K.ops.zero ≡ get_or t (i * n + i) K.ops.zero =
    get_or-take (n - i) (drop (i * n + i) t) 0 K.ops.zero some ∙ get_or-drop (i * n + i) t 0 K.ops.zero
    ∙ ap (λ (k : ℕ). get_or t k K.ops.zero) (add-zero (i * n + i)) in
    let is = c.real.ensures.value
    ∙ ap K.ops.real (get_or_default t (i * n + i) c.index-self-i.result K.ops.zero there ∙ sym entry) in
    let cols = lower_more n i (n - i) (i * n) ((i + 1) * n) t all some (column_next i n)
    ∙ ap (λ (m : ℕ). first ∷ lower n (i + 1) m (drop ((i + 1) * n) t)) count in
    write_out (diagonal K (lower n i (n - i) (drop (i * n) t))) (diagonal K (lower n (i + 1) (n - (i + 1)) (drop ((i + 1) * n) t)))
    c.loop-i.values i c.real.result within
    (ap (diagonal K) cols ∙ ap (λ (v : g.row.T-Real.Denot). v ∷ diagonal K (lower n (i + 1) (n - (i + 1)) (drop ((i + 1) * n) t))) (sym is))
    ∙ c.loop-i.invariant

pub returns : goal.returns
returns g c =
    let K = kind g.T.Arithmetic.ops g.T.Real.Arithmetic.ops g.T.Real.RealScalar.real in
    let n = c.args.self.now.n in let i = c.loop-i.i in let t = c.args.self.now.entries.now in
    let none : n - i ≡ 0 = omega arith in
    let full : length c.loop-i.values ≤ i = omega arith in
    sym (written c.loop-i.values (diagonal K (lower n i (n - i) (drop (i * n) t))) i full
    (ap (λ (m : ℕ). diagonal K (lower n i m (drop (i * n) t))) none ∙ ap (diagonal K) (lower_none n i (drop (i * n) t))))
    ∙ c.loop-i.invariant
