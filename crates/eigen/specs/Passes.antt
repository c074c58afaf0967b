-- One pass over a block: the chase of three or more, the closed form of two. Definitions only.
use Rattle.std.specs.Prelude.{ℕ, ◌+◌, ◌-◌, Bool, cond, List, [], ◌∷◌, Some, None, Option, nat_lt, slice_set}
use Rattle.std.specs.Option.{is_some}
use Rattle.scalar.specs.Ops.{Ops, RealOps}
use Rattle.rows.specs.Turns.{Turn, turn_of}
use Rattle.rows.specs.declared.direction.Direction.TheVariants.{Forward}
use Rattle.eigen.specs.declared.givens.Normed.{Normed}
use Rattle.eigen.specs.declared.eigenvalues.Vector2.{Vector2}
use Rattle.eigen.specs.Givens.{try_new}
use Rattle.eigen.specs.Eigenvalues.{vector_of, eigenvalues}
use Rattle.eigen.specs.Blocks.{at, within}
use Rattle.eigen.specs.Turnings.{Turning, unturned}
use Rattle.eigen.specs.Chases.{chased}

-- one forward turn by the rotation, if there is one
abbrev pub forward : {R : Type 0} → ℕ → Option (Normed R) → List (Turn R)
forward start None = []
forward start (Some found) = turn_of start found.rotation.c found.rotation.s Forward ∷ []

module _ {R : Type 0} (ops : Ops R R) (real : RealOps R) where
  -- of an eigenvector of a block of two, the one less likely to have lost its digits
  abbrev pub basis_of : R → R → R → R → Vector2 R
  basis_of x first second off =
      cond (real.lt (ops.modulus (ops.sub x first)) (ops.modulus (ops.sub x second)))
      (vector_of (ops.sub x second) off) (vector_of off (ops.sub x first))

  abbrev pub pair_at : ℕ → List R → List R → Option (Vector2 R)
  pair_at start values offs =
      eigenvalues ops real (at ops values start) (at ops offs start) (ops.conj (at ops offs start)) (at ops values (start + 1))

module _ {R : Type 0} (ops : Ops R R) (real : RealOps R) (tolerance : R) where
  abbrev pub basis_turns : ℕ → Vector2 R → List (Turn R)
  basis_turns start basis = forward start (try_new ops real basis.x basis.y tolerance)

  -- the two eigenvalues in place of the block's values, and the turn to its eigenvectors
  abbrev pub pair_put : ℕ → List R → List R → Option (Vector2 R) → Turning R
  pair_put start values offs None = unturned values offs
  pair_put start values offs (Some e) = record {
    values = slice_set (slice_set values start e.x) (start + 1) e.y;
    offs = offs;
    turns = basis_turns start (basis_of ops real e.x (at ops values start) (at ops values (start + 1)) (at ops offs start));
  }

  abbrev pub pair_left : ℕ → List R → List R → Turning R
  pair_left start values offs = pair_put start values offs (pair_at ops real start values offs)

  abbrev pub pair_exists : ℕ → List R → List R → Bool
  pair_exists start values offs = is_some (pair_at ops real start values offs)

  -- what a pass leaves
  abbrev pub pass_left : ℕ → ℕ → List R → List R → Turning R
  pass_left start end values offs = cond (nat_lt (start + 1) end) (chased ops real start end values offs) (pair_left start values offs)

  -- where the search for the next block begins; none where a block of two has no real eigenvalues
  abbrev pub chase_end : ℕ → Turning R → ℕ
  chase_end end o = cond (within ops real tolerance o.values o.offs (end - 1)) (end - 1) end

  abbrev pub pass_end : ℕ → ℕ → List R → List R → Option ℕ
  pass_end start end values offs = cond (nat_lt (start + 1) end) (Some (chase_end end (chased ops real start end values offs)))
      (cond (pair_exists start values offs) (Some (end - 1)) None)
