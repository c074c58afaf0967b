-- A turn of two neighbouring columns, row by row. Definitions only.
use Rattle.std.specs.Prelude.{ℕ, zero, suc, List, [], ◌∷◌}
use Rattle.scalar.specs.Ops.{Ops}
use Rattle.rows.specs.declared.direction.Direction.{Direction}
use Rattle.rows.specs.declared.direction.Direction.TheVariants.{Forward, Back}
use Rattle.rows.specs.declared.turn.Turn as declared

-- the struct of src/, named here for other files
abbrev pub Turn : Type 0 → Type 0
Turn R = declared.Turn R

abbrev pub turn_of : {R : Type 0} → ℕ → R → R → Direction → Turn R
turn_of i c s d = record { column = i; c = c; s = s; direction = d }

-- t: the embedded sine, or its negative when the direction is back
abbrev pub sine : {C R : Type 0} → Ops C R → Direction → R → C
sine ops Forward s = ops.embed s
sine ops Back s = ops.neg (ops.embed s)

-- (a scaled by c) + t·b, and (negative of t's conjugate)·a + (b scaled by c)
abbrev pub first : {C R : Type 0} → Ops C R → R → C → C → C → C
first ops c t a b = ops.add (ops.scale a c) (ops.mul t b)

abbrev pub second : {C R : Type 0} → Ops C R → R → C → C → C → C
second ops c t a b = ops.add (ops.mul (ops.neg (ops.conj t)) a) (ops.scale b c)

-- both from the old pair at the column and the next one; nothing else changes
abbrev pub turn_at : {C R : Type 0} → Ops C R → R → C → ℕ → List C → List C
turn_at ops c t i [] = []
turn_at ops c t i (a ∷ []) = a ∷ []
turn_at ops c t zero (a ∷ (b ∷ row)) = first ops c t a b ∷ (second ops c t a b ∷ row)
turn_at ops c t (suc i) (a ∷ (b ∷ row)) = a ∷ turn_at ops c t i (b ∷ row)

abbrev pub turned : {C R : Type 0} → Ops C R → Turn R → List C → List C
turned ops t row = turn_at ops t.c (sine ops t.direction t.s) t.column row

-- a list of turns, one after the other
abbrev pub turned_all : {C R : Type 0} → Ops C R → List (Turn R) → List C → List C
turned_all ops [] row = row
turned_all ops (t ∷ ts) row = turned_all ops ts (turned ops t row)
