-- A step keeps the lengths of the lower columns.
use Rattle.std.proofs.Common.{◌≡◌, ℕ, zero, suc, true, false, cond, List, [], ◌∷◌, length, get_or, take, drop, sym, refl, ap, ◌∙◌, arith, length-append, length-drop, length-set, length-take}
use lib.ListN.{length-map}
use Rattle.scalar.specs.Ops.{Ops}
use Rattle.tridiagonal.specs.Blas.{dotc_of, unscaled, norm_of, normalised}
use Rattle.tridiagonal.specs.Householder.{Kind, axis_of, axis_reflects, axis_factor, first_moved, signed_norm}
use Rattle.tridiagonal.specs.Hermitian.{below_sum, first_column, hegemv_from, hegemv_of, hegerc_of}
use Rattle.tridiagonal.specs.Tridiagonal.{two, minus_one, updated, double_product, stepped_column, stepped_rest, reduced_columns}
use Rattle.tridiagonal.proofs.Columns.{Shaped}
use Rattle.tridiagonal.proofs.Products.{length_axpy, shaped_hegerc}

module _ {C R : Type 0} (o : Ops C R) (a : C) where
  length_hegemv_from : (m : ℕ) (cs : List (List C)) (xs ps : List C) → Shaped m cs → length xs ≡ m → length ps ≡ m →
      length (hegemv_from o a cs xs ps) ≡ m
  unfolding hegemv_from
  length_hegemv_from m [] xs ps s hx hp = hp
  length_hegemv_from zero (c ∷ cs) xs ps s hx hp = absurd (cc)
  length_hegemv_from (suc m) (c ∷ cs) xs ps s hx hp =
      let x_less : length (drop 1 xs) ≡ m = let d = length-drop 1 xs in omega arith in
      let p_less : length (drop 1 ps) ≡ m = let d = length-drop 1 ps in omega arith in
      let c_less : length (drop 1 c) ≡ m = let d = length-drop 1 c in let e = s.0 in omega arith in
      ap suc (length_hegemv_from m cs (drop 1 xs) (below_sum o a c xs ps) s.1 x_less
      (length_axpy o (o.mul a (get_or xs 0 o.zero)) o.one (drop 1 c) (drop 1 ps) (c_less ∙ sym p_less) ∙ p_less))

  pub length_hegemv : (m : ℕ) (cs : List (List C)) (xs : List C) → Shaped m cs → length xs ≡ m → length (hegemv_of o a cs xs) ≡ m
  unfolding hegemv_of
  length_hegemv zero [] xs s hx = refl
  length_hegemv (suc m) [] xs s hx = absurd s
  length_hegemv zero (c ∷ cs) xs s hx = absurd (cc)
  length_hegemv (suc m) (c ∷ cs) xs s hx =
      let x_less : length (drop 1 xs) ≡ m = let d = length-drop 1 xs in omega arith in
      let made : length (first_column o a c xs) ≡ suc m = length-map c (λ u. o.mul (o.mul (o.mul a (get_or xs 0 o.zero)) u) o.one) ∙ s.0 in
      let p_less : length (drop 1 (first_column o a c xs)) ≡ m = let d = length-drop 1 (first_column o a c xs) in omega arith in
      ap suc (length_hegemv_from m cs (drop 1 xs) (drop 1 (first_column o a c xs)) s.1 x_less p_less)

module _ {C R : Type 0} (K : Kind C R) where
  length_moved : (xs : List C) → length (first_moved K xs) ≡ length xs
  unfolding first_moved
  length_moved xs = length-set xs 0 (K.ops.add (get_or xs 0 K.ops.zero) (signed_norm K xs))

  length_unscaled : (d : R) (xs : List C) → length (unscaled K.ops d xs) ≡ length xs
  length_unscaled d xs = length-map xs (λ x. K.ops.unscale x d)

  length_normalised : (xs : List C) → length (normalised K.ops K.real xs) ≡ length xs
  length_normalised xs = length_unscaled (norm_of K.ops K.real xs) xs

  pub length_axis : (xs : List C) → length (axis_of K xs) ≡ length xs
  unfolding axis_of
  length_axis xs =
      let divided = unscaled K.ops (K.real.root (axis_factor K xs)) (first_moved K xs) in
      elim (axis_reflects K xs) as (λ z. length (cond z (normalised K.ops K.real divided) (first_moved K xs)) ≡ length xs) [
        | true ↦ length_normalised divided ∙ length_unscaled (K.real.root (axis_factor K xs)) (first_moved K xs) ∙ length_moved xs
        | false ↦ length_moved xs
      ]

  pub length_stepped_column : (m : ℕ) (c : List C) → length c ≡ suc m → length (stepped_column K c) ≡ suc m
  unfolding stepped_column
  length_stepped_column m c h =
      let t = length-take 1 c in let d = length-drop 1 c in let a = length_axis (drop 1 c) in
      length-append (take 1 c) (axis_of K (drop 1 c)) ∙ omega arith

  shaped_updated : (m : ℕ) (axis : List C) (cs : List (List C)) → Shaped m cs → length axis ≡ m → Shaped m (updated K axis cs)
  unfolding updated
  shaped_updated m axis cs s h =
      let p = double_product K axis cs in
      let long = length_hegemv K.ops (two K) m cs axis s h in
      let s1 = shaped_hegerc K.ops (minus_one K) m p axis cs s long in
      let s2 = shaped_hegerc K.ops (minus_one K) m axis p (hegerc_of K.ops (minus_one K) p axis cs) s1 h in
      shaped_hegerc K.ops (K.ops.mul (dotc_of K.ops axis p) (two K)) m axis axis
      (hegerc_of K.ops (minus_one K) axis p (hegerc_of K.ops (minus_one K) p axis cs)) s2 h

  pub shaped_rest : (m : ℕ) (c : List C) (cs : List (List C)) → length c ≡ suc m → Shaped m cs → Shaped m (stepped_rest K c cs)
  unfolding stepped_rest
  shaped_rest m c cs h s =
      let long : length (axis_of K (drop 1 c)) ≡ m = let d = length-drop 1 c in length_axis (drop 1 c) ∙ omega arith in
      elim (axis_reflects K (drop 1 c)) as (λ z. Shaped m (cond z (updated K (axis_of K (drop 1 c)) cs) cs))
      [ true ↦ shaped_updated m (axis_of K (drop 1 c)) cs s long | false ↦ s ]

  pub shaped_reduced : (k m : ℕ) (cs : List (List C)) → Shaped m cs → Shaped m (reduced_columns K k cs)
  unfolding reduced_columns
  shaped_reduced zero m cs s = s
  shaped_reduced (suc k) m [] s = s
  shaped_reduced (suc k) zero (c ∷ cs) s = absurd (cc)
  shaped_reduced (suc k) (suc m) (c ∷ cs) s =
      (length_stepped_column m c s.0, shaped_reduced k m (stepped_rest K c cs) (shaped_rest m c cs s.0 s.1))
