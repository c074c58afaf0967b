-- What a part of a run leaves: values and off-diagonal entries, and the turns that every row is given. Definitions only.
use Rattle.std.specs.Prelude.{List, [], ◌∷◌, map}
use Rattle.scalar.specs.Ops.{Ops}
use Rattle.rows.specs.Turns.{Turn, turned_all}
use Rattle.rows.specs.Keepers.{Kept}

pub record Turning (R : Type 0) : Type 0 where
  pub values : List R
  pub offs : List R
  pub turns : List (Turn R)

abbrev pub unturned : {R : Type 0} → List R → List R → Turning R
unturned values offs = record { values = values; offs = offs; turns = [] }

abbrev pub after : {R : Type 0} → Turn R → Turning R → Turning R
after t o = record { values = o.values; offs = o.offs; turns = t ∷ o.turns }

-- every row with the turns applied
abbrev pub kept_all : {C R : Type 0} → Ops C R → List (Turn R) → Kept C → Kept C
kept_all ops ts k = record { width = k.width; rows = map (turned_all ops ts) k.rows }

-- what stands at the end: values, off-diagonal entries, and what the keeper holds
pub record Left (C R : Type 0) : Type 0 where
  pub values : List R
  pub offs : List R
  pub kept : Kept C

abbrev pub left_by : {C R : Type 0} → Ops C R → Turning R → Kept C → Left C R
left_by ops o k = record { values = o.values; offs = o.offs; kept = kept_all ops o.turns k }
