-- Where the fall of a scan ends.
use Rattle.std.proofs.Common.{◌≡◌, ℕ, zero, suc, ◌+◌, ◌<◌, ◌≤◌, Bool, true, false, cond, sym, refl, ◌∙◌, arith}
use Rattle.std.proofs.lemmas.Bool.{false≢true}
use Rattle.eigen.specs.Blocks.{fall_to}

-- the test holds below `to`, and from there on it does not
pub record Falls (stop : ℕ → Bool) (from to : ℕ) : Type 0 where
  pub below : to ≤ from
  pub stopped : (m : ℕ) → to ≡ m + 1 → stop m ≡ true
  pub passed : (m : ℕ) → to ≤ m → m < from → stop m ≡ false

pub falls_to : (stop : ℕ → Bool) (from to : ℕ) → Falls stop from to → to ≡ fall_to stop from
falls_to stop zero to f = omega (arith, f.below)
falls_to stop (suc n) to f =
    go (stop n) refl
    (λ below. falls_to stop n to (record { below = below; stopped = f.stopped; passed = λ m k l. f.passed m k (omega arith) }))
  where
    go : (b : Bool) → stop n ≡ b → (to ≤ n → to ≡ fall_to stop n) → to ≡ cond b (suc n) (fall_to stop n)
    go true e rest =
        let no : to ≤ n → ⊥ = λ k. false≢true (sym (f.passed n k (omega arith)) ∙ e) in
        omega (arith, f.below)
    go false e rest =
        let no : to ≡ n + 1 → ⊥ = λ k. false≢true (sym e ∙ f.stopped n k) in
        rest (omega (arith, f.below))
