-- What stays of a square while it is worked on. Definitions only.
use Rattle.std.specs.Prelude.{◌≡◌}
use Rattle.tridiagonal.specs.declared.square.Square.{Square}

-- the table's columns, and which square of it they are
pub record SameSquare {T : Type 0} (s r : Square T) : Type 0 where
  pub cells : r.cells.ghost_name ≡ s.cells.ghost_name
  pub n : r.n ≡ s.n
  pub k : r.k ≡ s.k
