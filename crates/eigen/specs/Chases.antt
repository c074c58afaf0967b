-- The chase of a block: rotation after rotation, each a back turn of two neighbouring columns. Definitions only.
use Rattle.std.specs.Prelude.{ℕ, zero, suc, ◌+◌, ◌-◌, cond, List, Some, None, Option, nat_lt, slice_set}
use Rattle.scalar.specs.Ops.{Ops, RealOps}
use Rattle.rows.specs.Turns.{turn_of}
use Rattle.rows.specs.declared.direction.Direction.TheVariants.{Back}
use Rattle.eigen.specs.declared.givens.Rotation.{Rotation}
use Rattle.eigen.specs.declared.givens.Normed.{Normed}
use Rattle.eigen.specs.declared.eigenvalues.Vector2.{Vector2}
use Rattle.eigen.specs.declared.chase.Corner.{Corner}
use Rattle.eigen.specs.Givens.{cancel_y}
use Rattle.eigen.specs.Eigenvalues.{vector_of, wilkinson_shift}
use Rattle.eigen.specs.Blocks.{at}
use Rattle.eigen.specs.Turnings.{Turning, unturned, after}

abbrev pub corner_of : {R : Type 0} → R → R → R → Corner R
corner_of mii mij mjj = record { mii = mii; mij = mij; mjj = mjj }

module _ {R : Type 0} (ops : Ops R R) (real : RealOps R) where
  -- the symmetric block (mii mij)(mij mjj) under a rotation, on both sides
  abbrev pub rotated_corner : Rotation R → Corner R → Corner R
  rotated_corner r m =
      let cc = ops.mul r.c r.c in
      let ss = ops.mul r.s r.s in
      let cs = ops.mul r.c r.s in
      let b = ops.mul (ops.mul cs real.two) m.mij in
      corner_of (ops.sub (ops.add (ops.mul cc m.mii) (ops.mul ss m.mjj)) b)
      (ops.add (ops.mul cs (ops.sub m.mii m.mjj)) (ops.mul m.mij (ops.sub cc ss)))
      (ops.add (ops.add (ops.mul ss m.mii) (ops.mul cc m.mjj)) b)

  -- the block of the entries i and i + 1, and its place taken by another
  abbrev pub corner_at : List R → List R → ℕ → Corner R
  corner_at values offs i = corner_of (at ops values i) (at ops offs i) (at ops values (i + 1))

  abbrev pub corner_values : Corner R → ℕ → List R → List R
  corner_values m i values = slice_set (slice_set values i m.mii) (i + 1) m.mjj

  -- past the first rotation, the last one's norm stands before the block
  abbrev pub norm_put : ℕ → ℕ → R → List R → List R
  norm_put start i norm offs = cond (nat_lt start i) (slice_set offs (i - 1) norm) offs

  -- before the last rotation, the next entry is multiplied by the cosine, and (offs[i], (-s)·offs[i + 1]) is next to be cancelled
  abbrev pub bulge_offs : ℕ → ℕ → Rotation R → List R → List R
  bulge_offs end i r offs = cond (nat_lt (i + 1) end) (slice_set offs (i + 1) (ops.mul (at ops offs (i + 1)) r.c)) offs

  abbrev pub bulge_next : ℕ → ℕ → Rotation R → List R → Vector2 R → Vector2 R
  bulge_next end i r offs old = cond (nat_lt (i + 1) end) (vector_of (at ops offs i) (ops.mul (ops.neg r.s) (at ops offs (i + 1)))) old

  -- one step: the values, and the off-diagonal entries up to the next bulge
  abbrev pub step_corner : ℕ → ℕ → Normed R → List R → List R → Corner R
  step_corner start i found values offs = rotated_corner found.rotation (corner_at values (norm_put start i found.norm offs) i)

  abbrev pub step_values : ℕ → ℕ → Normed R → List R → List R → List R
  step_values start i found values offs = corner_values (step_corner start i found values offs) i values

  abbrev pub step_offs : ℕ → ℕ → Normed R → List R → List R → List R
  step_offs start i found values offs = slice_set (norm_put start i found.norm offs) i (step_corner start i found values offs).mij

module _ {R : Type 0} (ops : Ops R R) (real : RealOps R) (start end : ℕ) where
  -- one step of the chase and the rest of it; it is left where there is nothing to cancel
  abbrev pub chase_on : ℕ → Vector2 R → List R → List R → (Vector2 R → List R → List R → Turning R) → Option (Normed R) → Turning R
  chase_on i bulge values offs rest None = unturned values offs
  chase_on i bulge values offs rest (Some found) =
      let next = step_offs ops real start i found values offs in
      after (turn_of i found.rotation.c found.rotation.s Back)
      (rest (bulge_next ops real end i found.rotation next bulge) (step_values ops real start i found values offs)
      (bulge_offs ops real end i found.rotation next))

  -- the chase from i, with so many rotations at most
  unfoldable pub chase_from : ℕ → ℕ → Vector2 R → List R → List R → Turning R
  chase_from zero i bulge values offs = unturned values offs
  chase_from (suc left) i bulge values offs =
      chase_on i bulge values offs (λ b v o. chase_from left (i + 1) b v o) (cancel_y ops real bulge.x bulge.y)

module _ {R : Type 0} (ops : Ops R R) (real : RealOps R) where
  -- the bulge that a block's chase starts from: its first value less the Wilkinson shift of its last two, beside its first off-diagonal
  -- entry
  abbrev pub first_bulge : ℕ → ℕ → List R → List R → Vector2 R
  first_bulge start end values offs =
      vector_of (ops.sub (at ops values start) (wilkinson_shift ops real (at ops values (end - 1)) (at ops values end)
      (at ops offs (end - 1))))
      (at ops offs start)

  abbrev pub chased : ℕ → ℕ → List R → List R → Turning R
  chased start end values offs = chase_from ops real start end (end - start) start (first_bulge start end values offs) values offs
