-- The search for the block of a tridiagonal form that a pass works on. Definitions only.
use Rattle.std.specs.Prelude.{ℕ, zero, suc, ◌+◌, Bool, cond, ◌||◌, List, Some, None, Option, slice_index_or, slice_set}
use Rattle.scalar.specs.Ops.{Ops, RealOps}
use Rattle.eigen.specs.declared.block.Block.{Block}

-- where a block starts and ends; at the end of a run both are the same
pub record Span : Type 0 where
  pub start : ℕ
  pub end : ℕ

abbrev pub span_of : ℕ → ℕ → Span
span_of start end = record { start = start; end = end }

-- a block found, or the single one at zero where none is
abbrev pub block_in : Option Block → Span
block_in None = span_of zero zero
block_in (Some block) = span_of block.start block.end

-- the first number at or below n whose predecessor stops the fall, or zero
abbrev pub fall_to : (ℕ → Bool) → ℕ → ℕ
fall_to stop zero = zero
fall_to stop (suc m) = cond (stop m) (suc m) (fall_to stop m)

module _ {R : Type 0} (ops : Ops R R) where
  abbrev pub at : List R → ℕ → R
  at xs i = slice_index_or xs i ops.zero

module _ {R : Type 0} (ops : Ops R R) (real : RealOps R) (tolerance : R) where
  -- what the off-diagonal entry m is held against: tolerance × (|values[m + 1]| + |values[m]|)
  abbrev pub bound : List R → ℕ → R
  bound values m = ops.mul tolerance (ops.add (ops.size (at ops values (m + 1))) (ops.size (at ops values m)))

  -- whether the entry m is above its bound, and whether it is at most its bound
  abbrev pub above : List R → List R → ℕ → Bool
  above values offs m = real.lt (bound values m) (ops.size (at ops offs m))

  abbrev pub within : List R → List R → ℕ → Bool
  within values offs m = real.le (ops.size (at ops offs m)) (bound values m)

  abbrev pub negligible : List R → List R → ℕ → Bool
  negligible values offs m = ops.is_zero (at ops offs m) || within values offs m

  -- first scan: the end falls until the entry before it is above its bound
  abbrev pub end_from : List R → List R → ℕ → ℕ
  end_from values offs end = fall_to (above values offs) end

  -- second scan: the start falls until the entry before it is negligible
  abbrev pub start_from : List R → List R → ℕ → ℕ
  start_from values offs start = fall_to (negligible values offs) start

module _ {R : Type 0} (ops : Ops R R) where
  -- the entry before a block's start is set to zero
  abbrev pub cut_at : ℕ → List R → List R
  cut_at zero offs = offs
  cut_at (suc m) offs = slice_set offs m ops.zero

module _ {R : Type 0} (ops : Ops R R) (real : RealOps R) (tolerance : R) where
  -- the block that ends at `end`: single at 0, else from the second scan's start
  abbrev pub block_at : List R → List R → ℕ → Span
  block_at values offs zero = span_of zero zero
  block_at values offs (suc m) = span_of (start_from ops real tolerance values offs m) (suc m)

  -- the block found below `end`, and the off-diagonal entries after the search
  abbrev pub block_from : List R → List R → ℕ → Span
  block_from values offs end = block_at values offs (end_from ops real tolerance values offs end)

  abbrev pub offs_from : List R → List R → ℕ → List R
  offs_from values offs end = cut_at ops (block_from values offs end).start offs
