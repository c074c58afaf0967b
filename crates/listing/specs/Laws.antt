-- Laws over whole listings. Definitions only.
use Rattle.std.specs.Prelude.{◌≡◌, ℕ, ◌*◌, ◌<◌, ◌≤◌, true, List, [], ◌∷◌, ◌++◌, length, Some, None, Option, ◌≢◌}
use Rattle.std.specs.List.{AllByRecursion}
use Rattle.fault.specs.Bounds.{limit_fits}
use Rattle.fault.specs.Refusals.{refused}
use Rattle.tridiagonal.specs.Reduce.{largest_size}
use Rattle.decomposition.specs.Kinds.{r64, c64}
use Rattle.decomposition.specs.Solutions.{Solution, solved, failed, starved}
use Rattle.job.specs.Typed.{entries}
use Rattle.sheet.specs.declared.desk.Asked.{Asked}
use Rattle.sheet.specs.declared.desk.Asked.TheVariants.{Values, Vectors}
use Rattle.sheet.specs.Desk.{Table, real_table, outline_table, reals, outlines}
use Rattle.sheet.specs.declared.kind.Kind.{Kind}
use Rattle.sheet.specs.Faults.{rule}
use Rattle.sheet.specs.Laws.{ClosesAll, cut_off, later}
use Rattle.sheet.specs.Sheets.{Stop, run}
use Rattle.listing.specs.declared.line.Line.{Line}
use Rattle.listing.specs.declared.line.Line.TheVariants.{Heading}
use Rattle.listing.specs.Listings.{Listed, Made, lists, fails, entry_lines, lines, listed, longest, made_of_table, solution_of_typed}
use Rattle.listing.specs.Shown.{reals_shown, outlines_shown}

-- The largest size that was gathered as a table was typed is the one that its reduction finds and divides by.
abbrev pub reduces_by : Table → Type 0
reduces_by (real_table asked j) = j.largest ≡ largest_size r64 (entries reals j)
reduces_by (outline_table asked j) = j.largest ≡ largest_size c64 (entries outlines j)

abbrev pub Reduces : List ℕ → Type 0
Reduces s = AllByRecursion (λ c. reduces_by c.table) (run s).tables

-- The same table, where something else is asked of it.
abbrev pub asking : Asked → Table → Table
asking asked (real_table other j) = real_table asked j
asking asked (outline_table other j) = outline_table asked j

-- The same refusal, or the same lines and then these.
abbrev pub followed_by : Made → List Line → Made
followed_by (lists ls) more = lists (ls ++ more)
followed_by (fails w) more = fails w

-- the vectors of a table that is solved, column by column
abbrev pub vectors_in : {C R : Type 0} → Solution C R → List C
vectors_in (solved e) = e.vectors
vectors_in (failed why) = []
vectors_in starved = []

-- A line for each entry of the vectors that a table's decomposition gives.
abbrev pub vector_lines : Table → List Line
vector_lines (real_table asked j) = entry_lines reals_shown j.side (vectors_in (solution_of_typed r64 Vectors j))
vector_lines (outline_table asked j) = entry_lines outlines_shown j.side (vectors_in (solution_of_typed c64 Vectors j))

abbrev pub side_of : Table → ℕ
side_of (real_table asked j) = j.side
side_of (outline_table asked j) = j.side

-- Asked for vectors, a table lists what it does asked for values, and then its vectors, entry by entry: where it is solved, a line for each
-- row and column.
pub record AddsRowsTo (t : Table) : Type 0 where
  pub follow : made_of_table (asking Vectors t) ≡ followed_by (made_of_table (asking Values t)) (vector_lines t)
  pub many : (ls : List Line) → made_of_table (asking Vectors t) ≡ lists ls → length (vector_lines t) ≡ side_of t * side_of t

abbrev pub AddsRows : List ℕ → Type 0
AddsRows s = AllByRecursion (λ c. AddsRowsTo c.table) (run s).tables

-- The same table, with another limit.
abbrev pub limited : ℕ → Table → Table
limited m (real_table asked j) = real_table asked (record j { limit = m })
limited m (outline_table asked j) = outline_table asked (record j { limit = m })

-- A solved table tells its passes in its heading. At each limit above them that a table can have it lists the same, and at each from 1 to
-- them it is not settled, with that limit as its count.
abbrev pub AtLimits : Table → Type 0
AtLimits t = (kind : Kind) (side largest passes m : ℕ) (rest : List Line) →
    made_of_table t ≡ lists (Heading kind side largest passes ∷ rest) →
    (limit_fits m ≡ true → passes < m → made_of_table (limited m t) ≡ made_of_table t) ×
    (1 ≤ m → m ≤ passes → made_of_table (limited m t) ≡ fails (rule (refused 7 (m ∷ []))))

abbrev pub AnyLimit : List ℕ → Type 0
AnyLimit s = AllByRecursion (λ c. AtLimits c.table) (run s).tables

-- What follows a refused command does not matter, be it refused by the reader or as its table is solved. (A command that is cut
-- off is another one when more bytes follow.) So it is of a sheet's tables, whatever its length, and of its listing where the longer
-- sheet is short enough.
abbrev pub TablesUnlisted : List ℕ → Type 0
TablesUnlisted s = (t : List ℕ) (x : Stop) → (lines s).refusal ≡ Some x → (x.why ≢ cut_off) → lines (s ++ t) ≡ lines s

abbrev pub Unlisted : List ℕ → Type 0
Unlisted s = (t : List ℕ) (x : Stop) → length (s ++ t) ≤ longest → (listed s).refusal ≡ Some x → (x.why ≢ cut_off) →
    listed (s ++ t) ≡ listed s

-- One listing behind another, whose sheet has n bytes: nothing follows a refusal.
abbrev pub unless_ended : Option Stop → Listed → ℕ → Listed → Listed
unless_ended None a n b = record { lines = a.lines ++ b.lines; refusal = later n b.refusal }
unless_ended (Some x) a n b = a

abbrev pub behind : Listed → ℕ → Listed → Listed
behind a n b = unless_ended a.refusal a n b

-- A sheet that closes all its tables, and a second one behind it: its tables, and its listing.
abbrev pub TablesBehind : List ℕ → Type 0
TablesBehind s = (t : List ℕ) → ClosesAll (run s) → lines (s ++ t) ≡ behind (lines s) (length s) (lines t)

abbrev pub ListsBehind : List ℕ → Type 0
ListsBehind s = (t : List ℕ) → length (s ++ t) ≤ longest → ClosesAll (run s) →
    listed (s ++ t) ≡ behind (listed s) (length s) (listed t)
