-- The largest size of a list when one of its numbers is replaced: a size can be pulled out of the fold.
use Rattle.std.proofs.Common.{◌≡◌, ℕ, zero, suc, ◌<◌, T, List, [], ◌∷◌, length, get_or, set, replicate, fold, sym, refl, ap, ◌∙◌, ⊎_elim, arith}
use Rattle.std.proofs.lemmas.List.Elements.{All-head, All-replicate, All-set, All-tail}
use Rattle.std.proofs.lemmas.List.{length-set, get_or-set_other, set-set}
use Rattle.std.proofs.lemmas.Bool.{cases_eq}
use Rattle.scalar.specs.Ops.{Ops, RealOps, LargerLaws, SizeLaws}
use Rattle.job.specs.Gathered.{HasSize, Sized, gather, largest_size}

module _ {C R : Type 0} (ops : Ops C R) (real : RealOps R) (laws : LargerLaws real) where
  -- two sizes gathered in either order
  pub swapped : (a b c : R) → T (real.is_size a) → T (real.is_size b) → T (real.is_size c) →
      real.larger (real.larger a b) c ≡ real.larger (real.larger a c) b
  swapped a b c p q r = laws.assoc a b c p q r ∙ ap (real.larger a) (laws.comm b c q r) ∙ sym (laws.assoc a c b p r q)

  pub pulled : (a b : R) (xs : List C) → T (real.is_size a) → T (real.is_size b) → Sized ops real xs →
      fold (gather ops real) (real.larger a b) xs ≡ real.larger (fold (gather ops real) a xs) b
  pulled a b [] p q s = refl
  pulled a b (x ∷ xs) p q s =
      let h = All-head (HasSize ops real) x xs s in
      ap (λ n. fold (gather ops real) n xs) (swapped a b (ops.size x) p q h) ∙
      pulled (gather ops real a x) b xs (laws.closed a (ops.size x) p h) q (All-tail (HasSize ops real) x xs s)

  pub folded_size : (a : R) (xs : List C) → T (real.is_size a) → Sized ops real xs →
      T (real.is_size (fold (gather ops real) a xs))
  folded_size a [] p s = p
  folded_size a (x ∷ xs) p s =
      folded_size (gather ops real a x) xs (laws.closed a (ops.size x) p (All-head (HasSize ops real) x xs s))
      (All-tail (HasSize ops real) x xs s)

  module _ (sizes : SizeLaws ops real) where
    -- the fold may as well start from the size of zero
    pub from_zero : (xs : List C) → Sized ops real xs → largest_size ops real xs ≡ fold (gather ops real) (ops.size ops.zero) xs
    from_zero [] s = refl
    from_zero (x ∷ xs) s =
        ap (λ n. fold (gather ops real) n xs)
        (let h = All-head (HasSize ops real) x xs s in
        sym (laws.comm (ops.size ops.zero) (ops.size x) sizes.zero_size h ∙ sizes.zero_neutral (ops.size x) h))

    pub largest_is_size : (xs : List C) → Sized ops real xs → T (real.is_size (largest_size ops real xs))
    largest_is_size [] s = sizes.zero_size
    largest_is_size (x ∷ xs) s =
        folded_size (ops.size x) xs (All-head (HasSize ops real) x xs s) (All-tail (HasSize ops real) x xs s)

    -- a number in the place of a zero
    pub folded_set : (a : R) (xs : List C) (i : ℕ) (x : C) → T (real.is_size a) → Sized ops real xs → HasSize ops real x →
        i < length xs → get_or xs i ops.zero ≡ ops.zero →
        fold (gather ops real) a (set xs i x) ≡ real.larger (fold (gather ops real) a xs) (ops.size x)
    folded_set a [] i x p s q l e = let no : ⊥ = omega arith in absurd no
    folded_set a (y ∷ xs) zero x p s q l e =
        pulled a (ops.size x) xs p q (All-tail (HasSize ops real) y xs s) ∙
        ap (λ n. real.larger (fold (gather ops real) n xs) (ops.size x)) (sym (ap (gather ops real a) e ∙ sizes.zero_neutral a p))
    folded_set a (y ∷ xs) (suc i) x p s q l e =
        folded_set (gather ops real a y) xs i x (laws.closed a (ops.size y) p (All-head (HasSize ops real) y xs s))
        (All-tail (HasSize ops real) y xs s) q (omega arith) e

    pub largest_set : (xs : List C) (i : ℕ) (x : C) → Sized ops real xs → Sized ops real (set xs i x) → HasSize ops real x →
        i < length xs → get_or xs i ops.zero ≡ ops.zero →
        largest_size ops real (set xs i x) ≡ real.larger (largest_size ops real xs) (ops.size x)
    largest_set xs i x s t q l e =
        from_zero (set xs i x) t ∙
        folded_set (ops.size ops.zero) xs i x sizes.zero_size s q l e ∙
        ap (λ n. real.larger n (ops.size x)) (sym (from_zero xs s))

    -- two numbers of one size, each in the place of a zero; the places may be one
    pub largest_pair : (xs : List C) (p q : ℕ) (y x : C) → Sized ops real xs → HasSize ops real x → ops.size y ≡ ops.size x →
        p < length xs → q < length xs → get_or xs p ops.zero ≡ ops.zero → get_or xs q ops.zero ≡ ops.zero →
        largest_size ops real (set (set xs p y) q x) ≡ real.larger (largest_size ops real xs) (ops.size x)
    largest_pair xs p q y x s k same lp lq ep eq = ⊎_elim one two (cases_eq q p)
      where
        ky : HasSize ops real y
        ky = rw same k

        sy : Sized ops real (set xs p y)
        sy = All-set (HasSize ops real) xs p y ky s

        one : q ≡ p → largest_size ops real (set (set xs p y) q x) ≡ real.larger (largest_size ops real xs) (ops.size x)
        one e =
            ap (λ i. largest_size ops real (set (set xs i y) q x)) (sym e) ∙
            ap (largest_size ops real) (set-set xs q y x) ∙
            largest_set xs q x s (All-set (HasSize ops real) xs q x k s) k lq eq

        two : (q ≡ p → ⊥) → largest_size ops real (set (set xs p y) q x) ≡ real.larger (largest_size ops real xs) (ops.size x)
        two ne =
            largest_set (set xs p y) q x sy (All-set (HasSize ops real) (set xs p y) q x k sy) k
            (rw (length-set xs p y) lq) (get_or-set_other xs p q y ops.zero ne ∙ eq) ∙
            ap (λ n. real.larger n (ops.size x)) (largest_set xs p y s sy ky lp ep ∙ ap (real.larger (largest_size ops real xs)) same) ∙
            laws.assoc (largest_size ops real xs) (ops.size x) (ops.size x) (largest_is_size xs s) k k ∙
            ap (real.larger (largest_size ops real xs)) (laws.idem (ops.size x) k)

module _ {C R : Type 0} (ops : Ops C R) (real : RealOps R) (sizes : SizeLaws ops real) where
  pub zeros_sized : (n : ℕ) → Sized ops real (replicate n ops.zero)
  zeros_sized n = All-replicate (HasSize ops real) n ops.zero sizes.zero_size

  folded_zeros : (n : ℕ) → fold (gather ops real) (ops.size ops.zero) (replicate n ops.zero) ≡ ops.size ops.zero
  folded_zeros zero = refl
  folded_zeros (suc n) =
      ap (λ a. fold (gather ops real) a (replicate n ops.zero)) (sizes.zero_neutral (ops.size ops.zero) sizes.zero_size) ∙
      folded_zeros n

  pub largest_zeros : (n : ℕ) → largest_size ops real (replicate n ops.zero) ≡ ops.size ops.zero
  largest_zeros zero = refl
  largest_zeros (suc n) = folded_zeros n
