use Rattle.root.proofs.Answer.{answered}
use Rattle.root.proofs.root.Goals as goal

pub returns : goal.returns
returns g c =
    let d = c.drawn.ensures in
    let a = answered g.F.Binary.format (g.F.Binary.datum c.args.v) (g.F.Binary.datum c.drawn.result) d.fits d.value in
    record { value = a.value; defined = a.defined; only = a.only }
