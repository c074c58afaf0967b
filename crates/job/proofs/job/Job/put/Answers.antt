use Rattle.std.proofs.Common.{◌≡◌, T, length, vec_len, subst, rules}
use Rattle.std.proofs.lemmas.List.{with_items_is}
use Rattle.job.specs.Shown.{typed}
use Rattle.job.specs.Typed.{Typed, typed_from, putting}
use Rattle.job.proofs.Gathers.{putting_gathered}
use Rattle.job.proofs.job.Job.put.Goals as goal

pub invariant_of-self-clause-gathered : goal.invariant_of-self-clause-gathered
invariant_of-self-clause-gathered g c =
    let j = c.args.self.now in
    let real = g.T.Real.RealScalar.real in
    let len : length c.write.new.cells ≡ vec_len j.cells = search rules in
    let e : ◌≡◌ {A = Typed g.row.T.Denot g.row.T-Real.Denot}
    (typed_from j.side c.write.new.cells j.tolerance j.limit c.larger-self.result)
    (putting g.T.Arithmetic.ops real (typed j) c.args.row c.args.column c.args.x).1 =
    search rules
    in
    rw (with_items_is j.cells c.write.new.cells len, e)
    (putting_gathered g.T.Arithmetic.ops real g.met.T.Real.RealScalar.larger_of c.size-size.ensures.laws
    (typed j) c.args.row c.args.column c.args.x
    (subst (λ s. T (real.is_finite s) → T (real.is_size s)) c.size-size.ensures.value c.size-size.ensures.sized)
    j.gathered)
