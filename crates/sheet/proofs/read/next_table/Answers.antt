use Rattle.std.proofs.lemmas.Result.{err_from_is_err_and}
use Rattle.sheet.proofs.Joining.{unread}
use Rattle.sheet.proofs.TableSteps.{again, falls, at_end, at_close, at_stop, at_wrong}
use Rattle.sheet.proofs.read.next_table.Goals as goal

pub returns-in_err-next-clause-reading : goal.returns-in_err-next-clause-reading
returns-in_err-next-clause-reading c =
    let p = err_from_is_err_and c.from_residual.result c.from_residual.ensures.1 in
    rw (p.1, p.2) (at_wrong _ _ _ _ c.commands.invariant _ _ c.in_err-next.ensures.decoded)

pub commands-smaller : goal.commands-smaller
commands-smaller c = falls _ _ _ _ _ _ (rw c.in-Some.is at c.in_ok-next.ensures.decoded)

pub commands-preserved : goal.commands-preserved
commands-preserved c =
    again _ _ _ _ c.commands.invariant _ _ _ _ _ (rw c.in-Some.is at c.in_ok-next.ensures.decoded)
    (rw c.in-Ok-Goes.field-0-is at c.in-Ok-Goes.ensures.outcome)

pub returns-in-Ok-Closes-clause-reading : goal.returns-in-Ok-Closes-clause-reading
returns-in-Ok-Closes-clause-reading c =
    let made = c.new.ensures.reading in
    rw (made.0, made.1, made.2)
    (at_close _ _ _ _ c.commands.invariant _ _ _ _ _ (rw c.in-Some.is at c.in_ok-next.ensures.decoded)
    (rw c.in-Ok-Closes.field-0-is at c.in-Ok-Closes.ensures.outcome))

pub returns-in-Err-clause-reading : goal.returns-in-Err-clause-reading
returns-in-Err-clause-reading c =
    rw c.at.ensures.refusal
    (at_stop _ _ _ _ c.commands.invariant _ _ _ _ _ _ (rw c.in-Some.is at c.in_ok-next.ensures.decoded) c.in-Err.ensures.outcome)

pub returns-clause-reading : goal.returns-clause-reading
returns-clause-reading c = at_end _ _ _ _ c.commands.invariant (rw c.in_default.is at c.in_ok-next.ensures.decoded)

pub returns-in_err-next-clause-unread : goal.returns-in_err-next-clause-unread
returns-in_err-next-clause-unread c = unread c.args.sheet.now

pub returns-in-Ok-Closes-clause-unread : goal.returns-in-Ok-Closes-clause-unread
returns-in-Ok-Closes-clause-unread c = unread c.args.sheet.now

pub returns-in-Err-clause-unread : goal.returns-in-Err-clause-unread
returns-in-Err-clause-unread c = unread c.args.sheet.now
