-- What a table lists at other limits.
use Rattle.std.proofs.Common.{◌≡◌, ℕ, ◌<◌, ◌≤◌, true, List, [], ◌∷◌, Float, refl, ap, ◌∙◌}
use Rattle.std.specs.List.{AllByRecursion}
use Rattle.fault.specs.Bounds.{limit_fits}
use Rattle.fault.specs.Refusals.{refused}
use Rattle.tridiagonal.specs.Householder.{Kind}
use Rattle.decomposition.specs.Kinds.{r64, c64}
use Rattle.decomposition.specs.Solutions.{Solution, solved, failed, starved}
use Rattle.decomposition.proofs.Limits.{any_limit as solution_limit}
use Rattle.job.specs.Typed.{Typed, entries}
use Rattle.sheet.specs.declared.desk.Asked.{Asked}
use Rattle.sheet.specs.declared.kind.Kind.{Kind as TableKind}
use Rattle.sheet.specs.Desk.{Table, real_table, outline_table}
use Rattle.sheet.specs.Faults.{rule}
use Rattle.sheet.specs.Sheets.{Closing, run}
use Rattle.listing.specs.declared.line.Line.{Line}
use Rattle.listing.specs.declared.line.Line.TheVariants.{Heading}
use Rattle.listing.specs.Laws.{AnyLimit, AtLimits}
use Rattle.listing.specs.Listings.{lists, fails, made_from, made_of_typed, solution_of_typed, wants_vectors}
use Rattle.listing.specs.Shown.{ShownAs, reals_shown, outlines_shown}

module _ {C : Type 0} (S : ShownAs C) (K : Kind C Float) (asked : Asked) (j : Typed C Float) where
  typed_limit : (kind : TableKind) (side largest passes m : ℕ) (rest : List Line) →
      made_of_typed S K asked j ≡ lists (Heading kind side largest passes ∷ rest) →
      (limit_fits m ≡ true → passes < m → made_of_typed S K asked (record j { limit = m }) ≡ made_of_typed S K asked j) ×
      (1 ≤ m → m ≤ passes → made_of_typed S K asked (record j { limit = m }) ≡ fails (rule (refused 7 (m ∷ []))))
  typed_limit kind side largest passes m rest = by (solution_of_typed K asked j) refl
    where
      by : (x : Solution C Float) → solution_of_typed K asked j ≡ x →
          made_from S j.side j.largest x ≡ lists (Heading kind side largest passes ∷ rest) →
          (limit_fits m ≡ true → passes < m → made_of_typed S K asked (record j { limit = m }) ≡ made_from S j.side j.largest x) ×
          (1 ≤ m → m ≤ passes → made_of_typed S K asked (record j { limit = m }) ≡ fails (rule (refused 7 (m ∷ []))))
      by (solved e) is listed =
          let same : e.passes ≡ passes = cc in
          let law = solution_limit K (wants_vectors asked) j.side (entries K.ops j) j.tolerance j.limit in (
            λ ok h. ap (made_from S j.side j.largest) (law.above e m is ok (rw same h) ∙ is),
            λ least h. ap (made_from S j.side j.largest) (law.within e m is least (rw same h)),
          )
      by (failed why) is listed = absurd (cc)
      by starved is listed = absurd (cc)

of_table : (t : Table) → AtLimits t
of_table (real_table asked j) = typed_limit reals_shown r64 asked j
of_table (outline_table asked j) = typed_limit outlines_shown c64 asked j

of_all : (cs : List Closing) → AllByRecursion (λ c. AtLimits c.table) cs
of_all [] = tt
of_all (c ∷ cs) = (of_table c.table, of_all cs)

pub any_limit : (s : List ℕ) → AnyLimit s
any_limit s = of_all (run s).tables
