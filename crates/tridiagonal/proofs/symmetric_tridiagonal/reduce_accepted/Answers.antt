use Rattle.std.proofs.Common.{length, ap, ◌∙◌, arith}
use Rattle.tridiagonal.specs.Householder.{kind}
use Rattle.tridiagonal.specs.Outcome.{Reduced}
use Rattle.tridiagonal.specs.Reduce.{divided}
use Rattle.tridiagonal.specs.Runs.{buffers}
use Rattle.tridiagonal.specs.Accepted.{Accepted, accepted}
use Rattle.tridiagonal.proofs.Law.{accepted_run, only_lower}
use Rattle.tridiagonal.proofs.Whole.{whole_table, whole_signs, whole_offs, whole_values}
use Rattle.tridiagonal.proofs.symmetric_tridiagonal.reduce_accepted.Given.{Over}
use Rattle.tridiagonal.proofs.symmetric_tridiagonal.reduce_accepted.Goals.{Start}
use Rattle.tridiagonal.proofs.symmetric_tridiagonal.reduce_accepted.Goals as goal

-- the side and the lengths, of the buffers as given
sized : (g : Over) (c : Start g) → Accepted c.args.n (length c.args.table.now) (length c.args.values.now) (length c.args.offs.now)
    (length c.args.signs.now) (length c.args.scratch.now)
sized g c =
    accepted (kind g.T.Arithmetic.ops g.T.Real.Arithmetic.ops g.T.Real.RealScalar.real) c.args.n c.args.table.now
    (length c.args.values.now) (length c.args.offs.now) (length c.args.signs.now) (length c.args.scratch.now) c.requires

pub invariant_of-largest_size : goal.invariant_of-largest_size
invariant_of-largest_size g c =
    let ok = sized g (goal.at.invariant_of-largest_size g c).Start in record { some = ok.some; held = ok.as_table }

pub reduce_columns-requires : goal.reduce_columns-requires
reduce_columns-requires g c =
    let ok = sized g (goal.at.reduce_columns-requires g c).Start in
    record { some = ok.some; held = c.divide.auto.table ∙ ok.as_table; as_signs = ok.as_signs; as_scratch = ok.as_scratch }

pub invariant_of-read_diagonal : goal.invariant_of-read_diagonal
invariant_of-read_diagonal g c =
    let ok = sized g (goal.at.invariant_of-read_diagonal g c).Start in
    record { some = ok.some; held = c.reduce_columns.auto.table ∙ c.divide.auto.table ∙ ok.as_table }

pub read_diagonal-requires : goal.read_diagonal-requires
read_diagonal-requires g c = (sized g (goal.at.read_diagonal-requires g c).Start).as_values

pub read_moduli-requires : goal.read_moduli-requires
read_moduli-requires g c =
    let ok = sized g (goal.at.read_moduli-requires g c).Start in let same = c.reduce_columns.auto.signs in omega arith

pub invariant_of-result : goal.invariant_of-result
invariant_of-result g c =
    let ok = sized g (goal.at.invariant_of-result g c).Start in record { some = ok.some; few = ok.few }

pub returns : goal.returns
unfolding divided
returns g c =
    let K = kind g.T.Arithmetic.ops g.T.Real.Arithmetic.ops g.T.Real.RealScalar.real in
    let n = c.args.n in let t = c.args.table.now in
    let d = c.divide.new.table in let T = c.reduce_columns.new.table in
    let l = c.largest_size-largest.result in
    let signs = c.reduce_columns.new.signs in
    let held = (sized g (goal.at.returns g c).Start).as_table in
    let given = buffers t c.args.values.now c.args.offs.now c.args.signs.now c.args.scratch.now in
    let left = buffers T c.read_diagonal.new.values c.read_moduli.new.offs signs c.reduce_columns.new.scratch in
    let run = accepted_run K n given (Reduced n l) left c.requires (ap (Reduced n) c.largest_size-largest.ensures)
    (whole_table K n t d T l held c.largest_size-largest.ensures c.divide.ensures c.reduce_columns.ensures.table)
    (whole_values K n t d T l held c.largest_size-largest.ensures c.divide.ensures c.reduce_columns.ensures.table
    c.read_diagonal.new.values c.read_diagonal.ensures)
    (whole_offs K n t d T l held c.largest_size-largest.ensures c.divide.ensures c.reduce_columns.ensures.table signs
    c.read_moduli.new.offs c.reduce_columns.ensures.signs c.read_moduli.ensures)
    (whole_signs K n t d T l held c.largest_size-largest.ensures c.divide.ensures c.reduce_columns.ensures.table signs
    c.reduce_columns.ensures.signs)
    c.reduce_columns.auto.scratch in
    record { run = run; only_lower = only_lower K n given (Reduced n l) left run }
