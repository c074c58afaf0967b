-- The table that a job holds, as plain data. Definitions only.
use Rattle.std.specs.Prelude.{vec_items}
use Rattle.job.specs.declared.job.Job.{Job}
use Rattle.job.specs.Typed.{Typed, typed_from}

abbrev pub typed : {C R : Type 0} {a b c : _} → Job C R a b c → Typed C R
typed j = typed_from j.side (vec_items j.cells) j.tolerance j.limit j.largest
