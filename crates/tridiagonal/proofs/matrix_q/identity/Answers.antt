use Rattle.std.proofs.Common.{ℕ, ◌*◌, ◌<◌, ◌≤◌, length, sym, ap, ◌∙◌, arith}
use Rattle.std.proofs.lemmas.List.{take_all}
use Rattle.tridiagonal.specs.Assemble.{identity_from}
use Rattle.tridiagonal.specs.Householder.{kind}
use Rattle.tridiagonal.proofs.Assembled.{length_identity, identity_counted}
use Rattle.tridiagonal.proofs.matrix_q.identity.Goals as goal
use Rattle.tridiagonal.proofs.matrix_q.identity.Goals.{then-row-n, else-row-n}

pub loop-entry-preserved : goal.loop-entry-preserved
loop-entry-preserved g c =
    let K = kind g.T.Arithmetic.ops g.T.Real.Arithmetic.ops g.T.Real.RealScalar.real in
    let n = c.args.n in
    let k = c.loop-entry.entry-index in
    let h = c.loop-entry.invariant in
    let there : k < length c.loop-entry.q = omega arith in
    let within : k < n * n = omega arith in
    let more =
    identity_counted K n k c.loop-entry.row c.loop-entry.column c.loop-entry.q c.unit_entry.result c.requires.some within there
    h.inside h.place c.unit_entry.ensures h.so_far in
    elim c.if-row-n.branch [
      | then-row-n w ↦
          record { so_far = more; inside = omega arith; place = omega (arith, h.place, ap (λ (x : ℕ). x * n) w.column-is) }
      | else-row-n w ↦
          record { so_far = more; inside = omega arith; place = omega (arith, h.place, ap (λ (x : ℕ). x * n) w.column-is) }
    ]

pub returns : goal.returns
returns g c =
    let K = kind g.T.Arithmetic.ops g.T.Real.Arithmetic.ops g.T.Real.RealScalar.real in
    let I = identity_from K c.args.n 0 c.args.n in
    let k = c.loop-entry.entry-index in
    let full : length c.loop-entry.q ≤ k = omega arith in
    let all : length I ≤ k = let long = length_identity K c.args.n 0 c.args.n in omega arith in
    sym (take_all k c.loop-entry.q full) ∙ c.loop-entry.invariant.so_far ∙ take_all k I all
