-- What is known of whole sheets.
use Rattle.sheet.proofs.Gathering.{closed_gathered, gathers}
use Rattle.sheet.proofs.Joining.{joins, kept, unread}
use Rattle.sheet.proofs.Runs.{table_first}

pub ruleset next_table_laws = (table_first, closed_gathered, gathers, unread, kept, joins)
