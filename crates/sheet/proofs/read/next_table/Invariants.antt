use Rattle.std.proofs.Common.{◌-◌, length}
use Rattle.sheet.specs.Desk.{desk_of}
use Rattle.sheet.proofs.TableSteps.{Reads}
use Rattle.sheet.proofs.read.next_table.Given as goal

abbrev pub invariant-commands : goal.invariant-commands
invariant-commands l = Reads l.sheet l.place l.at (desk_of l.desk)

abbrev pub decreases-commands : goal.decreases-commands
decreases-commands l = length l.initial.sheet - l.at
