use Rattle.std.proofs.lemmas.Result.{err_from_is_err_and}
use Rattle.listing.proofs.Tables.{added, table_stops, reader_stops}
use Rattle.listing.proofs.list.next_lines.Goals as goal

pub returns-in_err-reading : goal.returns-in_err-reading
returns-in_err-reading c =
    let p = err_from_is_err_and c.from_residual.result c.from_residual.ensures.1 in
    record {
      step = rw (p.1, p.2) (reader_stops _ _ _ c.in_err-reading.ensures.one_by_one c.in_err-reading.ensures.reading);
    }

pub returns-in_err-solved : goal.returns-in_err-solved
returns-in_err-solved c =
    let p = err_from_is_err_and c.from_residual-in_err-solved.result c.from_residual-in_err-solved.ensures.1 in
    record {
      step =
          rw (p.1, p.2)
          (table_stops _ _ _ _ _ _ c.in_ok-reading.ensures.one_by_one (rw c.in-Some.is at c.in_ok-reading.ensures.reading)
          c.in_err-solved.ensures.made);
    }

pub returns : goal.returns
returns c = record {
  step =
      rw c.in_ok-solved.ensures.made.1
      (added _ _ _ _ _ _ c.in_ok-reading.ensures.one_by_one (rw c.in-Some.is at c.in_ok-reading.ensures.reading)
      c.in_ok-solved.ensures.made.0);
}
