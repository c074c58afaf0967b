-- The law of limits, for any pass.
use Rattle.std.proofs.Common.{◌≡◌, ℕ, zero, suc, ◌+◌, ◌<◌, ◌≤◌, sym, refl, ap, ◌∙◌, arith}
use Rattle.eigen.specs.Iterate.{Step, single, broken, passed, onward, made_before, settled, not_settled, iterate}

module _ {S L : Type 0} (step : S → Step S L) where
  -- a run is settled with no fewer passes than it has counted, and with fewer than its limit
  pub counted : (n count passes : ℕ) (s : S) → (iterate step n count s).answer ≡ settled passes → (count ≤ passes) × (passes < count + n)
  unfolding iterate
  counted zero count passes s e = let z : ◌≡◌ {A = ℕ} 0 1 = cc in let no : ⊥ = omega arith in absurd no
  counted (suc n) count passes s e = go (step s) (λ t h. counted n (count + 1) passes t h) e
    where
      go : (o : Step S L) → ((t : S) → (iterate step n (count + 1) t).answer ≡ settled passes → (count + 1 ≤ passes) ×
          (passes < count + 1 + n)) →
          (onward count s (λ t. iterate step n (count + 1) t) o).answer ≡ settled passes → (count ≤ passes) × (passes < count + suc n)
      go single ih e = let k : count ≡ passes = cc in omega arith
      go broken ih e = let z : ◌≡◌ {A = ℕ} 0 1 = cc in let no : ⊥ = omega arith in absurd no
      go (passed t ls) ih e = omega (arith, ih t e)

  -- what a run settled with so many passes comes to at another limit
  abbrev pub AtLimit : ℕ → ℕ → ℕ → ℕ → S → Type 0
  AtLimit n m count passes s =
      (passes < count + m → iterate step m count s ≡ iterate step n count s)
      × (count + m ≤ passes → (iterate step m count s).answer ≡ not_settled (count + m))

  pub any_limit : (n m count passes : ℕ) (s : S) → (iterate step n count s).answer ≡ settled passes → AtLimit n m count passes s
  unfolding iterate
  any_limit zero m count passes s e = let z : ◌≡◌ {A = ℕ} 0 1 = cc in let no : ⊥ = omega arith in absurd no
  any_limit (suc n) zero count passes s e =
      let c : count ≤ passes = (counted (suc n) count passes s e).0 in
      let z : count + 0 ≡ count = omega arith in
      (λ h. let no : ⊥ = omega arith in absurd no, λ h. ap not_settled (sym z))
  any_limit (suc n) (suc m) count passes s e = go (step s) (λ t h. any_limit n m (count + 1) passes t h) e
    where
      go : (o : Step S L) → ((t : S) → (iterate step n (count + 1) t).answer ≡ settled passes → AtLimit n m (count + 1) passes t) →
          (onward count s (λ t. iterate step n (count + 1) t) o).answer ≡ settled passes →
          (passes < count + suc m → onward count s (λ t. iterate step m (count + 1) t) o ≡ onward count s
          (λ t. iterate step n (count + 1) t) o)
          × (count + suc m ≤ passes → (onward count s (λ t. iterate step m (count + 1) t) o).answer ≡ not_settled (count + suc m))
      go single ih e =
          let k : count ≡ passes = cc in
          (λ h. refl, λ h. let no : ⊥ = omega arith in absurd no)
      go broken ih e = let z : ◌≡◌ {A = ℕ} 0 1 = cc in let no : ⊥ = omega arith in absurd no
      go (passed t ls) ih e =
          let z : count + suc m ≡ count + 1 + m = omega arith in
          (λ h. ap (made_before ls) ((ih t e).0 (omega arith)), λ h. (ih t e).1 (omega arith) ∙ ap not_settled (sym z))
