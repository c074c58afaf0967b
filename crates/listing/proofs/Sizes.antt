-- The largest size of a table, as it is gathered and as a reduction finds it.
use Rattle.std.proofs.Common.{◌≡◌, ℕ, List, [], ◌∷◌, refl, ◌∙◌}
use Rattle.std.specs.List.{AllByRecursion}
use Rattle.tridiagonal.specs.Householder.{Kind}
use Rattle.tridiagonal.specs.Reduce.{largest_size}
use Rattle.decomposition.specs.Kinds.{r64, c64}
use Rattle.job.specs.Gathered.{largest_size as gatheredSize}
use Rattle.sheet.specs.Desk.{Table, real_table, outline_table}
use Rattle.sheet.specs.Laws.{gathered_table}
use Rattle.sheet.specs.Sheets.{Closing, run}
use Rattle.sheet.proofs.Gathering.{gathers}
use Rattle.listing.specs.Laws.{Reduces, reduces_by}

module _ {C R : Type 0} (K : Kind C R) where
  same_size : (xs : List C) → gatheredSize K.ops K.real xs ≡ largest_size K xs
  unfolding largest_size
  same_size [] = refl
  same_size (x ∷ xs) = refl

of_table : (t : Table) → gathered_table t → reduces_by t
of_table (real_table asked j) g = g.largest ∙ same_size r64 _
of_table (outline_table asked j) g = g.largest ∙ same_size c64 _

of_all : (cs : List Closing) → AllByRecursion (λ c. gathered_table c.table) cs → AllByRecursion (λ c. reduces_by c.table) cs
of_all [] g = tt
of_all (c ∷ cs) g = (of_table c.table g.0, of_all cs g.1)

pub reduces : (s : List ℕ) → Reduces s
reduces s = of_all (run s).tables (gathers s)
