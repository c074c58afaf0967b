-- The whole reduction: the table divided, reduced and read off.
use Rattle.std.proofs.Common.{◌≡◌, ℕ, zero, suc, ◌+◌, ◌-◌, ◌*◌, ◌≤◌, true, false, cond, List, map, length, drop, sym, refl, ap, ◌∙◌, arith}
use lib.ListN.{length-map}
use Rattle.std.proofs.lemmas.List.{take-map, drop-map, map-id}
use Rattle.tridiagonal.specs.Blas.{unscaled}
use Rattle.tridiagonal.specs.Householder.{Kind}
use Rattle.tridiagonal.specs.Reduce.{largest_size, divided, reduced_lower, reduced_signs, reduced_offs, reduced_values, reduced_table}
use Rattle.tridiagonal.specs.Tables.{lower, put}
use Rattle.tridiagonal.specs.Tridiagonal.{diagonal, reduced_columns, reduced_norms}
use Rattle.tridiagonal.proofs.Columns.{shaped_lower, lower_put, lower_cons, lower_none}
use Rattle.tridiagonal.proofs.Shapes.{shaped_reduced}

pub lower_map : {C : Type 0} (f : C → C) (n k m : ℕ) (t : List C) → lower n k m (map f t) ≡ map (map f) (lower n k m t)
lower_map f n k zero t = lower_none n k (map f t) ∙ sym (ap (map (map f)) (lower_none n k t))
lower_map {C} f n k (suc m) t =
    cc (
      lower_cons n k m (map f t),
      lower_cons n k m t,
      drop-map f k t,
      take-map f (suc m) (drop k t),
      drop-map f n t,
      lower_map f n (suc k) m (drop n t),
    )

module _ {C R : Type 0} (K : Kind C R) where
  pub length_divided : (l : R) (t : List C) → length (divided K l t) ≡ length t
  unfolding divided
  length_divided l t =
      elim (K.reals.is_zero l) as (λ z. length (cond z t (unscaled K.ops l t)) ≡ length t)
      [ true ↦ refl | false ↦ length-map t (λ x. K.ops.unscale x l) ]

  pub lower_divided : (l : R) (n k m : ℕ) (t : List C) → lower n k m (divided K l t) ≡ map (divided K l) (lower n k m t)
  unfolding divided
  lower_divided l n k m t =
      elim (K.reals.is_zero l) as (λ z. lower n k m (cond z t (unscaled K.ops l t)) ≡
      map (λ (xs : List C). cond z xs (unscaled K.ops l xs)) (lower n k m t))
      [ true ↦ sym (map-id (lower n k m t)) | false ↦ lower_map (λ x. K.ops.unscale x l) n k m t ]

  -- d is the table t divided by its largest size, and T is d reduced
  module _ (n : ℕ) (t d T : List C) (l : R) (held : length t ≡ n * n) (largest : l ≡ largest_size K t) (is_d : d ≡ divided K l t)
      (is_T : T ≡ put n 0 n (reduced_columns K (n - 1) (lower n 0 n d)) d) where
    table_is : d ≡ divided K (largest_size K t) t
    table_is = is_d ∙ ap (λ (r : R). divided K r t) largest

    columns_are : lower n 0 n d ≡ map (divided K (largest_size K t)) (lower n 0 n t)
    columns_are = ap (lower n 0 n) table_is ∙ lower_divided (largest_size K t) n 0 n t

    reduced_are : reduced_columns K (n - 1) (lower n 0 n d) ≡ reduced_lower K n (largest_size K t) (lower n 0 n t)
    unfolding reduced_lower
    reduced_are = ap (reduced_columns K (n - 1)) columns_are

    pub whole_table : T ≡ reduced_table K n t
    unfolding reduced_table
    whole_table =
        cc (is_T, reduced_are, table_is)

    pub whole_lower : lower n 0 n T ≡ reduced_lower K n (largest_size K t) (lower n 0 n t)
    whole_lower =
        let long : n * n ≤ length d = let e = ap length is_d in let f = length_divided l t in omega arith in
        let all : 0 + n ≡ n = omega arith in
        cc (
          is_T,
          reduced_are,
          lower_put n 0 n (reduced_columns K (n - 1) (lower n 0 n d)) d all long
              (shaped_reduced K (n - 1) n (lower n 0 n d) (shaped_lower n 0 n d all long)),
        )

    pub whole_signs : (signs : List C) → signs ≡ reduced_norms K (n - 1) (lower n 0 n d) →
        signs ≡ reduced_signs K n (largest_size K t) (lower n 0 n t)
    unfolding reduced_signs
    whole_signs signs e = cc columns_are

    pub whole_offs : (signs : List C) (offs : List R) → signs ≡ reduced_norms K (n - 1) (lower n 0 n d) →
        offs ≡ map K.ops.modulus signs → offs ≡ reduced_offs K n (largest_size K t) (lower n 0 n t)
    unfolding reduced_offs
    whole_offs signs offs e f = cc (whole_signs signs e)

    pub whole_values : (values : List R) → values ≡ diagonal K (lower n 0 n T) →
        values ≡ reduced_values K n (largest_size K t) (lower n 0 n t)
    unfolding reduced_values
    whole_values values e = cc whole_lower
