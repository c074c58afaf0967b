-- The proved cases, as one table: real tables column by column, binary64. Definitions only.
use Rattle.std.specs.Prelude.{◌≡◌, ℕ, Bool, true, List, [], ◌∷◌, map, pos, negsuc, from_bits, Float, false}
use Rattle.std.specs.Float.{binary64, fin}
use Rattle.fault.specs.Refusals.{Refusal, refused}
use Rattle.scalar.specs.FloatOps.{float_ops}
use Rattle.root.specs.Root.{root_of}
use Rattle.rows.specs.Turns.{Turn, turned, turn_of, turned_all}
use Rattle.rows.specs.declared.direction.Direction.TheVariants.{Forward}
use Rattle.eigen.specs.Settles.{settle_of}
use Rattle.decomposition.specs.Kinds.{r64}
use Rattle.decomposition.specs.Solutions.{Solution, solved, failed, starved, solution, reduced_form, rows_of_q, task_of}

-- solved in so many passes, with these values
abbrev pub Settles : Solution Float Float → ℕ → List Float → Type 0
Settles (solved e) passes values = (e.passes ≡ passes) × (e.values ≡ values)
Settles (failed why) passes values = ⊥
Settles starved passes values = ⊥

-- and with these vectors
abbrev pub SettlesWith : Solution Float Float → ℕ → List Float → List Float → Type 0
SettlesWith (solved e) passes values vectors = (e.passes ≡ passes) × (e.values ≡ values) × (e.vectors ≡ vectors)
SettlesWith (failed why) passes values vectors = ⊥
SettlesWith starved passes values vectors = ⊥

-- the rows that a run with all rows of Q leaves
abbrev pub rows_left : ℕ → List Float → Float → ℕ → List (List Float)
rows_left n t tolerance limit =
    map (turned_all r64.ops (settle_of r64.reals r64.real (task_of (reduced_form r64 n t) tolerance) limit).turns)
    (rows_of_q r64 (reduced_form r64 n t))

pub data Case : Type 0 where
  -- a table of this side, tolerance and limit is refused so
  refuses : (side : ℕ) (table : List Float) (tolerance : Float) (limit : ℕ) (why : Refusal) → Case
  -- it settles with these values in so many passes
  settles : (side : ℕ) (table : List Float) (tolerance : Float) (limit : ℕ) (values : List Float) (passes : ℕ) → Case
  -- and, where they are asked for, with these vectors, column by column, which a run leaves as these rows
  settles_with : (side : ℕ) (table : List Float) (tolerance : Float) (limit : ℕ) (values : List Float) (passes : ℕ)
      (vectors : List Float) (rows : List (List Float)) → Case
  -- the root of a number
  roots : (v r : Float) → Case
  -- a row turned
  turns : (t : Turn Float) (row after : List Float) → Case

-- Of a table: what its decomposition comes to, by the definition that `symmetric_eigenvalues` and `symmetric_eigen` promise.
abbrev pub Holds : Case → Type 0
Holds (refuses n t tolerance limit why) = (asked : Bool) → solution r64 asked n t tolerance limit ≡ failed why
Holds (settles n t tolerance limit values passes) = (asked : Bool) → Settles (solution r64 asked n t tolerance limit) passes values
Holds (settles_with n t tolerance limit values passes vectors rows) =
    Settles (solution r64 false n t tolerance limit) passes values
    × SettlesWith (solution r64 true n t tolerance limit) passes values vectors
    × (rows_left n t tolerance limit ≡ rows)
Holds (roots v r) = root_of binary64 v ≡ r
Holds (turns t row after) = turned (float_ops binary64) t row ≡ after

abbrev pub Hold : List Case → Type 0
Hold [] = Unit {0}
Hold (c ∷ cs) = Holds c × Hold cs

-- ---- the numbers of the table

abbrev pub o : Float
o = fin false 0 (pos 0)

-- a whole number by its odd part and its power of two
abbrev pub whole : ℕ → ℕ → Float
whole m k = fin false m (pos k)

abbrev pub minus : ℕ → ℕ → Float
minus m k = fin true m (pos k)

-- 2^-52
abbrev pub fine : Float
fine = fin false 1 (negsuc 51)

abbrev pub cases : List Case
cases =
    refuses 0 [] fine 1 (refused 1 [])
    ∷ settles_with 1 (minus 3 0 ∷ []) fine 1 (minus 3 0 ∷ []) 0 (whole 1 0 ∷ []) ((whole 1 0 ∷ []) ∷ [])
    ∷ settles 2 (o ∷ o ∷ o ∷ o ∷ []) fine 1 (o ∷ o ∷ []) 0
    ∷ refuses 2 (o ∷ whole 1 0 ∷ whole 1 0 ∷ o ∷ []) fine 1 (refused 7 (1 ∷ []))
    ∷ settles 2 (o ∷ whole 1 0 ∷ whole 1 0 ∷ o ∷ []) fine 2 (whole 1 0 ∷ minus 1 0 ∷ []) 1
    ∷ settles 2 (o ∷ whole 5 0 ∷ o ∷ o ∷ []) fine 2 (whole 5 0 ∷ minus 5 0 ∷ []) 1
    ∷ settles 2 (o ∷ o ∷ whole 5 0 ∷ o ∷ []) fine 1 (o ∷ o ∷ []) 0
    ∷ refuses 1 (minus 3 0 ∷ []) (minus 1 0) 1 (refused 4 [])
    ∷ settles 1 (minus 3 0 ∷ []) (fin true 0 (pos 0)) 1 (minus 3 0 ∷ []) 0
    ∷ roots (whole 1 1) (from_bits binary64 0x3FF6A09E667F3BCD)
    ∷ turns (turn_of 0 o (whole 1 0) Forward) (whole 1 0 ∷ o ∷ []) (o ∷ minus 1 0 ∷ [])
    ∷ []
