-- A table of n rows, column by column in one list, and its lower columns: each from its diagonal entry down. Definitions only.
use Rattle.std.specs.Prelude.{ℕ, zero, suc, List, [], ◌∷◌, ◌++◌, take, drop}

-- The lower columns of the last m columns of a table, of which the first has its diagonal entry in row k.
unfoldable pub lower : {C : Type 0} → ℕ → ℕ → ℕ → List C → List (List C)
lower n k zero t = []
lower n k (suc m) t = take (suc m) (drop k t) ∷ lower n (suc k) m (drop n t)

-- Those columns written over the table's own, and nothing else changed.
unfoldable pub put : {C : Type 0} → ℕ → ℕ → ℕ → List (List C) → List C → List C
put n k zero cs t = t
put n k (suc m) [] t = t
put n k (suc m) (c ∷ cs) t = take k t ++ (c ++ put n (suc k) m cs (drop n t))
