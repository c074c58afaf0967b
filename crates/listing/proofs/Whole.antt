-- What is known of whole sheets and their listings.
use Rattle.sheet.proofs.Gathering.{gathers}
use Rattle.sheet.proofs.Joining.{joins, unread}
use Rattle.listing.proofs.Joining.{lists_behind, tables_behind, tables_unlisted, unlisted}
use Rattle.listing.proofs.Limits.{any_limit}
use Rattle.listing.proofs.Sizes.{reduces}
use Rattle.listing.proofs.Vectors.{adds_rows}

pub ruleset list_sheet_laws =
    (gathers, reduces, adds_rows, any_limit, unread, unlisted, tables_unlisted, joins, lists_behind, tables_behind)
