-- Passes one after the other, for any pass: until one finds nothing to do, breaks off, or the limit is reached. Definitions only.
use Rattle.std.specs.Prelude.{ℕ, zero, suc, ◌+◌, List, [], ◌∷◌, ◌++◌}
use Rattle.fault.specs.Refusals.{refused}
use Rattle.rows.specs.Keepers.{Answer, given, denied}

-- what becomes of a state: nothing is to be done, its pass breaks off, or it is passed on with what the pass made
pub data Step (S L : Type 0) : Type 0 where
  single : Step S L
  broken : Step S L
  passed : S → List L → Step S L

-- the answer, the state left, and all that the passes made
pub record Ran (S L : Type 0) : Type 0 where
  pub answer : Answer ℕ
  pub left : S
  pub made : List L

abbrev pub settled : ℕ → Answer ℕ
settled passes = given passes

abbrev pub not_settled : ℕ → Answer ℕ
not_settled count = denied (refused 7 (count ∷ []))

abbrev pub no_pair : ℕ → Answer ℕ
no_pair count = denied (refused 8 (count ∷ []))

abbrev pub ran_of : {S L : Type 0} → Answer ℕ → S → Ran S L
ran_of a s = record { answer = a; left = s; made = [] }

abbrev pub made_before : {S L : Type 0} → List L → Ran S L → Ran S L
made_before ls r = record { answer = r.answer; left = r.left; made = ls ++ r.made }

-- a run goes on from what became of its state
abbrev pub onward : {S L : Type 0} → ℕ → S → (S → Ran S L) → Step S L → Ran S L
onward count s rest single = ran_of (settled count) s
onward count s rest broken = ran_of (no_pair count) s
onward count s rest (passed t ls) = made_before ls (rest t)

-- With no pass left to the limit the run is not settled, whatever the state; else the count of passes goes on.
unfoldable pub iterate : {S L : Type 0} → (S → Step S L) → ℕ → ℕ → S → Ran S L
iterate step zero count s = ran_of (not_settled count) s
iterate step (suc n) count s = onward count s (λ t. iterate step n (count + 1) t) (step s)
