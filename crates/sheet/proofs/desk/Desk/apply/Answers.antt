use Rattle.sheet.proofs.Desks.{refused_unchanged}
use Rattle.sheet.proofs.desk.Desk.apply.Goals as goal

pub returns-clause-unchanged : goal.returns-clause-unchanged
returns-clause-unchanged c = refused_unchanged _ _ _ _ c.applied.ensures.outcome
