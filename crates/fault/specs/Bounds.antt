-- The bounds of a side and of a limit. Definitions only.
use Rattle.std.specs.Prelude.{ℕ, Bool, ◌&&◌, nat_le}

abbrev pub side_fits : ℕ → Bool
side_fits side = nat_le 1 side && nat_le side 512

abbrev pub limit_fits : ℕ → Bool
limit_fits limit = nat_le 1 limit && nat_le limit 1000000
