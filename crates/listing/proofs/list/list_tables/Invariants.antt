use Rattle.std.proofs.Common.{◌≡◌, ◌-◌, length, vec_items}
use Rattle.listing.specs.Listings.{lines}
use Rattle.listing.specs.Steps.{OpensAt, before, lines_from}
use Rattle.listing.proofs.list.list_tables.Given as goal

abbrev pub invariant-tables : goal.invariant-tables
invariant-tables l =
    (before (vec_items l.lines) (lines_from l.sheet l.place) ≡ lines l.sheet) × (OpensAt l.sheet l.place → OpensAt l.sheet 0)

abbrev pub decreases-tables : goal.decreases-tables
decreases-tables l = length l.initial.sheet - l.place
