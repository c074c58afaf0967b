-- Sums over columns, for every number kind. Definitions only.
use Rattle.std.specs.Prelude.{ℕ, zero, suc, ◌-◌, ◌/◌, ◌%◌, cond, List, [], ◌∷◌, map, length, take, drop, slice_index_or}
use Rattle.scalar.specs.Ops.{Ops, RealOps}
use Rattle.tridiagonal.specs.declared.sums.Sums.{Sums}

-- a sum with one product more: of the conjugate of x with y
abbrev pub plus_product : {C R : Type 0} → Ops C R → C → C → C → C
plus_product o sum x y = o.add sum (o.mul (o.conj x) y)

abbrev pub no_sums : {C R : Type 0} → Ops C R → Sums C
no_sums o = record { s0 = o.zero; s1 = o.zero; s2 = o.zero; s3 = o.zero; s4 = o.zero; s5 = o.zero; s6 = o.zero; s7 = o.zero }

-- each of eight sums takes the product at its place
abbrev pub eight_more : {C R : Type 0} → Ops C R → Sums C → List C → List C → Sums C
eight_more o s xs ys =
    record {
      s0 = plus_product o s.s0 (slice_index_or xs 0 o.zero) (slice_index_or ys 0 o.zero);
      s1 = plus_product o s.s1 (slice_index_or xs 1 o.zero) (slice_index_or ys 1 o.zero);
      s2 = plus_product o s.s2 (slice_index_or xs 2 o.zero) (slice_index_or ys 2 o.zero);
      s3 = plus_product o s.s3 (slice_index_or xs 3 o.zero) (slice_index_or ys 3 o.zero);
      s4 = plus_product o s.s4 (slice_index_or xs 4 o.zero) (slice_index_or ys 4 o.zero);
      s5 = plus_product o s.s5 (slice_index_or xs 5 o.zero) (slice_index_or ys 5 o.zero);
      s6 = plus_product o s.s6 (slice_index_or xs 6 o.zero) (slice_index_or ys 6 o.zero);
      s7 = plus_product o s.s7 (slice_index_or xs 7 o.zero) (slice_index_or ys 7 o.zero);
    }

-- the eight sums added up in pairs
abbrev pub gathered : {C R : Type 0} → Ops C R → Sums C → C
gathered o s =
    o.add (o.add (o.add (o.add o.zero (o.add s.s0 s.s4)) (o.add s.s1 s.s5)) (o.add s.s2 s.s6))
    (o.add s.s3 s.s7)

-- the sums after a number of chunks of eight
unfoldable pub running_sums : {C R : Type 0} → Ops C R → ℕ → Sums C → List C → List C → Sums C
running_sums o zero s xs ys = s
running_sums o (suc chunks) s xs ys = running_sums o chunks (eight_more o s (take 8 xs) (take 8 ys)) (drop 8 xs) (drop 8 ys)

-- the products of the entries that are left, one after the other
abbrev pub plus_products : {C R : Type 0} → Ops C R → C → List C → List C → C
plus_products o sum [] ys = sum
plus_products o sum (x ∷ xs) [] = sum
plus_products o sum (x ∷ xs) (y ∷ ys) = plus_products o (plus_product o sum x y) xs ys

-- the dot product of the conjugate of xs with ys: all whole chunks of eight, and then what is left
unfoldable pub dotc_of : {C R : Type 0} → Ops C R → List C → List C → C
dotc_of o xs ys =
    plus_products o (gathered o (running_sums o (length xs / 8) (no_sums o) xs ys))
    (drop (length xs - length xs % 8) xs) (drop (length xs - length xs % 8) ys)

-- two columns entry by entry, as long as the second
abbrev pub zipped : {C : Type 0} → (C → C → C) → List C → List C → List C
zipped f [] ys = ys
zipped f (x ∷ xs) [] = []
zipped f (x ∷ xs) (y ∷ ys) = f x y ∷ zipped f xs ys

-- axpy without y: (a·u)·1
abbrev pub axc_of : {C R : Type 0} → Ops C R → C → List C → List C
axc_of o a xs = map (λ u. o.mul (o.mul a u) o.one) xs

-- axpy with both columns: ((a·u)·1) + (b·y)
abbrev pub axcpy_of : {C R : Type 0} → Ops C R → C → List C → C → List C → List C
axcpy_of o a xs b ys = zipped (λ u y. o.add (o.mul (o.mul a u) o.one) (o.mul b y)) xs ys

unfoldable pub axpy_of : {C R : Type 0} → Ops C R → C → List C → C → List C → List C
axpy_of o a xs b ys = cond (o.is_zero b) (axc_of o a xs) (axcpy_of o a xs b ys)

abbrev pub norm_squared_of : {C R : Type 0} → Ops C R → List C → R
norm_squared_of o xs = o.real (dotc_of o xs xs)

abbrev pub norm_of : {C R : Type 0} → Ops C R → RealOps R → List C → R
norm_of o r xs = r.root (norm_squared_of o xs)

abbrev pub unscaled : {C R : Type 0} → Ops C R → R → List C → List C
unscaled o d xs = map (λ x. o.unscale x d) xs

abbrev pub normalised : {C R : Type 0} → Ops C R → RealOps R → List C → List C
normalised o r xs = unscaled o (norm_of o r xs) xs
