-- The keepers that are made: what a first call checks, and what is held. Definitions only.
use Rattle.std.specs.Prelude.{ℕ, ◌+◌, ◌-◌, ◌*◌, Bool, cond, ◌&&◌, ◌||◌, List, [], ◌++◌, map, length, get_or, set, ◌==◌, nat_le, nat_lt}
use Rattle.std.specs.List.{range_with_len}
use Rattle.scalar.specs.Ops.{Ops}
use Rattle.fault.specs.Bounds.{side_fits}
use Rattle.fault.specs.Refusals.{refused}
use Rattle.rows.specs.Turns.{first, second}
use Rattle.rows.specs.Keepers.{Kept, Answer, given, denied, cell_at}

-- width 0 and no rows: what is made against the check
abbrev pub nothing : {C : Type 0} → Kept C
nothing = record { width = 0; rows = [] }

abbrev pub no_rows_check : ℕ → Answer (Unit {0})
no_rows_check width = cond (side_fits width) (given tt) (denied (refused 1 []))

abbrev pub no_rows_width : ℕ → ℕ
no_rows_width width = cond (side_fits width) width 0

-- column by column: the entry of row r and column i stands at r + i * count
abbrev pub row_of : {C : Type 0} → C → ℕ → ℕ → List C → ℕ → List C
row_of d width count cells r = map (λ i. get_or cells (r + i * count) d) (range_with_len 0 width)

abbrev pub rows_of : {C : Type 0} → C → ℕ → ℕ → List C → List (List C)
rows_of d width count cells = map (row_of d width count cells) (range_with_len 0 count)

-- what a turn writes at the places x and y of a slice, of which the old entries are a and b
abbrev pub entries_turned : {C R : Type 0} → Ops C R → R → C → ℕ → ℕ → List C → List C
entries_turned ops c t x y cells =
    let a = get_or cells x ops.zero in
    let b = get_or cells y ops.zero in
    set (set cells x (first ops c t a b)) y (second ops c t a b)

abbrev pub count_fits : ℕ → Bool
count_fits count = nat_le count 512

abbrev pub all_rows_fit : ℕ → ℕ → ℕ → Bool
all_rows_fit width count length = (side_fits width && count_fits count) && length == width * count

-- the counts that a keeper of a slice has: they fit, or are width 0 and no rows
abbrev pub counts_kept : ℕ → ℕ → ℕ → Bool
counts_kept width count length = all_rows_fit width count length || (width == 0 && count == 0)

abbrev pub all_rows_check : ℕ → ℕ → ℕ → Answer (Unit {0})
all_rows_check width count length =
    cond (side_fits width && count_fits count)
    (cond (length == width * count) (given tt) (denied (refused 2 [])))
    (denied (refused 1 []))

-- `d` stands for what lies past the slice, which no row of lawful counts reaches
abbrev pub all_rows : {C : Type 0} → C → ℕ → ℕ → List C → Kept C
all_rows d width count cells =
    cond (all_rows_fit width count (length cells)) (record { width = width; rows = rows_of d width count cells }) nothing

abbrev pub both_fit : {C : Type 0} → Kept C → Kept C → Bool
both_fit a b = a.width == b.width && nat_le (length a.rows + length b.rows) 65536

abbrev pub both_check : {C : Type 0} → Kept C → Kept C → Answer (Unit {0})
both_check a b =
    cond (a.width == b.width)
    (cond (nat_le (length a.rows + length b.rows) 65536) (given tt) (denied (refused 2 [])))
    (denied (refused 6 []))

-- the first's rows, then the second's
abbrev pub both : {C : Type 0} → Kept C → Kept C → Kept C
both a b = cond (both_fit a b) (record { width = a.width; rows = a.rows ++ b.rows }) nothing

-- a place of the first's rows, or of the second's past them
abbrev pub either_cell : {C : Type 0} → List (List C) → List (List C) → ℕ → ℕ → Answer C
either_cell first second r i = cond (nat_lt r (length first)) (cell_at first r i) (cell_at second (r - length first) i)
