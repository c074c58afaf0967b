-- The matrix Q, column by column in one list. Definitions only.
use Rattle.std.specs.Prelude.{ℕ, zero, suc, ◌-◌, ◌*◌, Bool, cond, ◌&&◌, List, [], ◌∷◌, ◌++◌, length, take, drop, Some, None, Option, ◌==◌}
use Rattle.fault.specs.Refusals.{Refusal, refused}
use Rattle.tridiagonal.specs.Householder.{Kind, reflected}

module _ {C R : Type 0} (K : Kind C R) where
  -- m entries of column j of the identity, from row i down
  unfoldable pub unit_from : ℕ → ℕ → ℕ → List C
  unit_from j i zero = []
  unit_from j i (suc m) = cond (i == j) K.ops.one K.ops.zero ∷ unit_from j (suc i) m

  -- m columns of the identity of side n, from column j on
  unfoldable pub identity_from : ℕ → ℕ → ℕ → List C
  identity_from n j zero = []
  identity_from n j (suc m) = unit_from j 0 n ++ identity_from n (suc j) m

  -- the first m columns reflected, each from row r down
  unfoldable pub reflected_columns : ℕ → ℕ → List C → C → ℕ → List C → List C
  reflected_columns n r axis sign zero q = q
  reflected_columns n r axis sign (suc m) q =
      take r q ++ (reflected K axis sign (take (n - r) (drop r q)) ++ reflected_columns n r axis sign m (drop n q))

  -- the columns from i on reflected, from the row after the diagonal down
  abbrev pub reflected_from : ℕ → ℕ → List C → C → List C → List C
  reflected_from n i axis sign q = take (i * n) q ++ reflected_columns n (suc i) axis sign (n - i) (drop (i * n) q)

  -- The identity, reflected across each column's axis, with the sign of its norm; the last column's comes first.
  unfoldable pub assembled_from : ℕ → ℕ → List (List C) → List C → List C
  assembled_from n i [] signs = identity_from n 0 n
  assembled_from n i (c ∷ cs) [] = identity_from n 0 n
  assembled_from n i (c ∷ cs) (s ∷ signs) = reflected_from n i (drop 1 c) (K.ops.sign s) (assembled_from n (suc i) cs signs)

  -- Q, from the lower columns of a reduced table and its signs
  unfoldable pub matrix_q : ℕ → List (List C) → List C → List C
  matrix_q n cs signs = assembled_from n 0 cs signs

-- a table and Q have n · n numbers, signs n - 1
abbrev pub assemble_lengths : ℕ → ℕ → ℕ → ℕ → Bool
assemble_lengths n table signs q = table == n * n && (signs == n - 1 && q == n * n)

abbrev pub assemble_refusal : {C : Type 0} → ℕ → List C → List C → List C → Option Refusal
assemble_refusal n table signs q = cond (assemble_lengths n (length table) (length signs) (length q)) None (Some (refused 2 []))
