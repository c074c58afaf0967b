-- The first entry whose size is not finite, by its place, and the largest size.
use Rattle.std.proofs.Common.{◌≡◌, ℕ, suc, ◌+◌, ◌/◌, ◌%◌, ◌<◌, Bool, true, false, not, cond, List, [], ◌∷◌, fold, length, get_or, drop, position, Some, None, Option, sym, refl, ap, ◌∙◌, add-one}
use Rattle.std.specs.List.{position_from}
use Rattle.std.proofs.lemmas.Iterator.Adapters.{position_from-zero}
use Rattle.std.proofs.lemmas.List.{get_or_default}
use Rattle.fault.specs.Refusals.{Refusal, refused}
use Rattle.tridiagonal.specs.Checks.{entry_refusal}
use Rattle.tridiagonal.specs.Householder.{Kind}
use Rattle.tridiagonal.specs.Reduce.{larger_size, largest_size}

module _ {C R : Type 0} (K : Kind C R) (n : ℕ) where
  abbrev not_finite : C → Bool
  not_finite x = not (K.real.is_finite (K.ops.size x))

  -- the refusal of the entry at a place
  abbrev refused_at : Option ℕ → Option Refusal
  refused_at None = None
  refused_at (Some i) = Some (refused 3 (i % n ∷ (i / n ∷ [])))

  refused_first : (k : ℕ) (xs : List C) → refused_at (position_from not_finite k xs) ≡ entry_refusal K n k xs
  unfolding entry_refusal
  refused_first k [] = refl
  refused_first k (x ∷ xs) =
      elim (K.real.is_finite (K.ops.size x)) as (λ b. refused_at (cond (not b) (Some k) (position_from not_finite (k + 1) xs)) ≡
      cond b (entry_refusal K n (suc k) xs) (Some (refused 3 (k % n ∷ (k / n ∷ [])))))
      [ true ↦ ap (λ (m : ℕ). refused_at (position_from not_finite m xs)) (add-one k) ∙ refused_first (suc k) xs | false ↦ refl ]

  pub entry_checked : (xs : List C) → entry_refusal K n 0 xs ≡ refused_at (position not_finite xs)
  entry_checked xs = sym (ap refused_at (position_from-zero not_finite xs) ∙ refused_first 0 xs)

module _ {C R : Type 0} (K : Kind C R) where
  pub largest_is : (t : List C) (x : C) (l m : R) → 0 < length t → l ≡ K.ops.size (get_or t 0 x) →
      m ≡ fold (larger_size K) l (drop 1 t) → m ≡ largest_size K t
  unfolding largest_size
  largest_is t x l m h e f =
      f ∙ ap (λ (r : R). fold (larger_size K) r (drop 1 t)) (e ∙ ap K.ops.size (get_or_default t 0 x K.ops.zero h))
