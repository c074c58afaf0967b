-- A table while it is typed, as plain data, and what each command makes of it. Definitions only.
use Rattle.std.specs.Prelude.{ℕ, ◌+◌, ◌*◌, Bool, true, cond, ◌&&◌, List, [], ◌∷◌, map, replicate, is_some, unwrap_or, Some, None, Option, from_bits, nat_le, nat_lt, slice_index_or, slice_set, Float}
use Rattle.std.specs.Float.Ieee.{le}
use Rattle.std.specs.Float.{float_is_finite, binary64}
use Rattle.fault.specs.Bounds.{limit_fits}
use Rattle.fault.specs.Refusals.{Refusal, refused}
use Rattle.scalar.specs.Ops.{Ops, RealOps}

-- `cells` is the table column by column, None where nothing was typed; `largest` is the largest size gathered.
pub record Typed (C R : Type 0) : Type 0 where
  pub side : ℕ
  pub cells : List (Option C)
  pub tolerance : Float
  pub tolerance_given : Bool
  pub limit : ℕ
  pub limit_given : Bool
  pub largest : R

-- The tolerance where none was given is 2^-52, and the limit 1000.
abbrev pub usual_tolerance : Float
usual_tolerance = from_bits binary64 0x3CB0000000000000

abbrev pub usual_limit : ℕ
usual_limit = 1000

-- A table by what is kept of it: the tolerance and the limit as they were given, if they were.
abbrev pub typed_from : {C R : Type 0} → ℕ → List (Option C) → Option Float → Option ℕ → R → Typed C R
typed_from side cells tolerance limit largest = record {
  side = side;
  cells = cells;
  tolerance = unwrap_or tolerance usual_tolerance;
  tolerance_given = is_some tolerance;
  limit = unwrap_or limit usual_limit;
  limit_given = is_some limit;
  largest = largest;
}

-- The sides that a table can have.
abbrev pub is_side : ℕ → Bool
is_side n = nat_le 1 n && nat_le n 32

-- A tolerance is finite and not below zero: minus zero is one, a NaN is none.
abbrev pub is_tolerance : Float → Bool
is_tolerance t = float_is_finite t && le (from_bits binary64 0) t

-- On and below the diagonal, and inside the table.
abbrev pub is_lower : ℕ → ℕ → ℕ → Bool
is_lower side row column = nat_le column row && nat_lt row side

-- Where the entry at a row and a column stands.
abbrev pub place : ℕ → ℕ → ℕ → ℕ
place side row column = row + column * side

-- A refusal, if any, and the table after.
abbrev pub Outcome : Type 0 → Type 0 → Type 0
Outcome C R = Option Refusal × Typed C R

module _ {C R : Type 0} where
  -- a number that was not typed is zero
  abbrev pub entry_of : Ops C R → Option C → C
  entry_of ops None = ops.zero
  entry_of ops (Some x) = x

  -- the whole table, column by column
  abbrev pub entries : Ops C R → Typed C R → List C
  entries ops j = map (entry_of ops) j.cells

  -- the number at a row and a column: zero where none was typed, and outside
  abbrev pub entry_at : Ops C R → Typed C R → ℕ → ℕ → C
  entry_at ops j row column =
      cond (nat_lt row j.side && nat_lt column j.side) (entry_of ops (slice_index_or j.cells (place j.side row column) None)) ops.zero

  abbrev pub blank : Ops C R → ℕ → Typed C R
  blank ops side = typed_from side (replicate (side * side) None) None None (ops.size ops.zero)

  -- The conjugate goes above the diagonal first, so that on the diagonal the number stands as typed.
  abbrev pub placed : Ops C R → ℕ → List (Option C) → ℕ → ℕ → C → List (Option C)
  placed ops side cells row column x =
      slice_set (slice_set cells (place side column row) (Some (ops.conj x))) (place side row column) (Some x)

  abbrev pub written : Ops C R → RealOps R → Typed C R → ℕ → ℕ → C → Typed C R
  written ops real j row column x =
      record j { cells = placed ops j.side j.cells row column x; largest = real.larger j.largest (ops.size x) }

  abbrev pub is_typed : Typed C R → ℕ → ℕ → Bool
  is_typed j row column = is_some (slice_index_or j.cells (place j.side row column) None)

  -- a number typed at a row and a column
  abbrev pub putting : Ops C R → RealOps R → Typed C R → ℕ → ℕ → C → Outcome C R
  putting ops real j row column x =
      cond (is_lower j.side row column)
      (cond (real.is_finite (ops.size x))
      (cond (is_typed j row column) (Some (refused 14 []), j) (None, written ops real j row column x))
      (Some (refused 3 (row ∷ (column ∷ []))), j))
      (Some (refused 13 []), j)

  abbrev pub tolerating : Typed C R → Float → Outcome C R
  tolerating j t =
      cond (is_tolerance t)
      (cond j.tolerance_given (Some (refused 14 []), j) (None, record j { tolerance = t; tolerance_given = true }))
      (Some (refused 4 []), j)

  abbrev pub limiting : Typed C R → ℕ → Outcome C R
  limiting j n =
      cond (limit_fits n)
      (cond j.limit_given (Some (refused 14 []), j) (None, record j { limit = n; limit_given = true }))
      (Some (refused 5 []), j)
