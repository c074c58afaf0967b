-- The largest size of a table, and what every table that was opened and typed meets. Definitions only.
use Rattle.std.specs.Prelude.{◌≡◌, ℕ, ◌*◌, ◌<◌, T, List, [], ◌∷◌, All, length, Some, None, fold, Option, slice_index_or}
use Rattle.scalar.specs.Ops.{Ops, RealOps}
use Rattle.job.specs.Typed.{Typed, entries, place}

module _ {C R : Type 0} where
  -- the larger of what is gathered and the size of one more number
  abbrev pub gather : Ops C R → RealOps R → R → C → R
  gather ops real a x = real.larger a (ops.size x)

  -- The first number's size, then the larger of it and each further one's; of no number, that of zero.
  abbrev pub largest_size : Ops C R → RealOps R → List C → R
  largest_size ops real [] = ops.size ops.zero
  largest_size ops real (x ∷ xs) = fold (gather ops real) (ops.size x) xs

  -- that of a whole table, entry by entry in column order
  abbrev pub largest_of : Ops C R → RealOps R → Typed C R → R
  largest_of ops real j = largest_size ops real (entries ops j)

  -- the size of a number, and those of all, are such as finite sizes can be
  abbrev pub HasSize : Ops C R → RealOps R → C → Type 0
  HasSize ops real x = T (real.is_size (ops.size x))

  abbrev pub Sized : Ops C R → RealOps R → List C → Type 0
  Sized ops real xs = All (HasSize ops real) xs

  -- a cell's conjugate is typed where it is
  abbrev pub conjugated : Ops C R → Option C → Option C
  conjugated ops None = None
  conjugated ops (Some x) = Some (ops.conj x)

  -- the entry at a column and a row is the conjugate of that at the row and the column
  abbrev pub Mirrors : Ops C R → ℕ → List (Option C) → ℕ → ℕ → Type 0
  Mirrors ops side cells row column =
      slice_index_or cells (place side column row) None ≡ conjugated ops (slice_index_or cells (place side row column) None)

  -- Above the diagonal stand the conjugates of the numbers below it, and the largest size that was gathered
  -- is that of the whole table.
  pub record Gathered (ops : Ops C R) (real : RealOps R) (j : Typed C R) : Type 0 where
    pub whole : length j.cells ≡ j.side * j.side
    pub mirrored : (row column : ℕ) → column < row → row < j.side → Mirrors ops j.side j.cells row column
    pub sized : Sized ops real (entries ops j)
    pub largest : j.largest ≡ largest_of ops real j
