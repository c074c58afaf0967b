use Rattle.std.proofs.Common.{◌≡◌, ◌+◌, ◌-◌, ◌*◌, ◌≤◌}
use Rattle.root_check.specs.Compare.{unlike_from}
use Rattle.root_check.proofs.unlike_from.Given as goal

-- what is left gives the whole
abbrev pub invariant-loop : goal.invariant-loop
invariant-loop g l = record {
  whole : l.n + unlike_from g.F.Binary.format (l.words - l.counter) l.x ≡ unlike_from g.F.Binary.format l.words l.seed;
  few : l.n ≤ 3 * l.counter;
}
