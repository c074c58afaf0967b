use Rattle.std.proofs.Common.{◌<◌, length, fold, ap, ◌∙◌, arith}
use Rattle.std.proofs.lemmas.List.{take_rest}
use Rattle.tridiagonal.specs.Householder.{kind}
use Rattle.tridiagonal.proofs.Columns.{column_held}
use Rattle.tridiagonal.proofs.Entries.{largest_is}
use Rattle.tridiagonal.specs.Reduce.{larger_size}
use Rattle.tridiagonal.proofs.table.Table.largest_size.Goals as goal

pub returns : goal.returns
returns g c =
    let K = kind g.T.Arithmetic.ops g.T.Real.Arithmetic.ops g.T.Real.RealScalar.real in
    let n = c.args.self.now.n in let t = c.args.self.now.entries.now in
    let some : 0 < length t = let held = column_held 0 n n (omega arith) in omega arith in
    largest_is K t c.index-self-0.result c.size.result c.largest_from.result some c.size.ensures.value
    (c.largest_from.ensures ∙ ap (fold (larger_size K) c.size.result) (take_rest t 1))
