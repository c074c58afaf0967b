-- What reducing and assembling in one call comes to. Definitions only.
use Rattle.std.specs.Prelude.{◌≡◌, ℕ, ◌-◌, ◌*◌, Bool, cond, ◌&&◌, List, [], map, length, Some, Option, ◌==◌}
use Rattle.fault.specs.Refusals.{Refusal, refused}
use Rattle.tridiagonal.specs.Assemble.{matrix_q}
use Rattle.tridiagonal.specs.Checks.{side_refused, entry_refusal, refusal_for}
use Rattle.tridiagonal.specs.Householder.{Kind}
use Rattle.tridiagonal.specs.Outcome.{LeftOpen, unless_refused}
use Rattle.tridiagonal.specs.Reduce.{reduced_table, values_of, offs_of, signs_of}
use Rattle.tridiagonal.specs.Runs.{Buffers}
use Rattle.tridiagonal.specs.Tables.{lower}

-- the buffers of a reduction, and Q
pub record WithQ (C R : Type 0) : Type 0 where
  pub buffers : Buffers C R
  pub q : List C

abbrev pub with_q : {C R : Type 0} → Buffers C R → List C → WithQ C R
with_q b q = record { buffers = b; q = q }

module _ {C R : Type 0} (K : Kind C R) where
  -- as a reduction's, with Q among the lengths
  abbrev pub form_refusal : ℕ → WithQ C R → Option Refusal
  form_refusal n r =
      cond (side_refused n) (Some (refused 1 []))
      (cond (length r.q == n * n)
      (refusal_for K n r.buffers.table r.buffers.values r.buffers.offs r.buffers.signs r.buffers.scratch)
      (Some (refused 2 [])))

  -- Q of a table
  abbrev pub q_of : ℕ → List C → List C
  q_of n table = matrix_q K n (lower n 0 n (reduced_table K n table)) (signs_of K n table)

  -- What is left by a call that is refused so, or is not.
  pub record Formed (n : ℕ) (given : WithQ C R) (why : Option Refusal) (left : WithQ C R) : Type 0 where
    pub table : left.buffers.table ≡ unless_refused why given.buffers.table (reduced_table K n given.buffers.table)
    pub values : left.buffers.values ≡ unless_refused why given.buffers.values (values_of K n given.buffers.table)
    pub offs : left.buffers.offs ≡ unless_refused why given.buffers.offs (offs_of K n given.buffers.table)
    pub signs : left.buffers.signs ≡ unless_refused why given.buffers.signs (signs_of K n given.buffers.table)
    pub scratch : LeftOpen why given.buffers.scratch left.buffers.scratch
    pub q : left.q ≡ unless_refused why given.q (q_of n given.buffers.table)

-- the buffers as they cross: the scratch is the call's own
pub record Crossing (P R : Type 0) : Type 0 where
  pub table : List P
  pub values : List R
  pub offs : List R
  pub signs : List P
  pub q : List P

abbrev pub crossing : {P R : Type 0} → List P → List R → List R → List P → List P → Crossing P R
crossing t v f s q = record { table = t; values = v; offs = f; signs = s; q = q }

-- a refusal or none, unless memory is wanting: then 255
abbrev pub unless_starved : Bool → Option Refusal → Option Refusal
unless_starved enough why = cond enough why (Some (refused 255 []))

-- the lengths that the side asks for
abbrev pub crossing_fits : {P R : Type 0} → ℕ → Crossing P R → Bool
crossing_fits n c =
    length c.table == n * n
    && (length c.values == n && (length c.offs == n - 1 && (length c.signs == n - 1 && length c.q == n * n)))

module _ {C R P : Type 0} (K : Kind C R) (inward : P → C) where
  -- In this order: the side, the lengths, want of memory, the first entry whose size is not finite.
  abbrev pub crossing_refusal : ℕ → Crossing P R → Bool → Option Refusal
  crossing_refusal n c enough =
      cond (side_refused n) (Some (refused 1 []))
      (cond (crossing_fits n c) (unless_starved enough (entry_refusal K n 0 (map inward c.table))) (Some (refused 2 [])))

module _ {C R P : Type 0} (K : Kind C R) (inward : P → C) (outward : C → P) where
  -- What is left by a call that is refused so, or is not.
  pub record Crossed (n : ℕ) (given : Crossing P R) (why : Option Refusal) (left : Crossing P R) : Type 0 where
    pub table : left.table ≡ unless_refused why given.table (map outward (reduced_table K n (map inward given.table)))
    pub values : left.values ≡ unless_refused why given.values (values_of K n (map inward given.table))
    pub offs : left.offs ≡ unless_refused why given.offs (offs_of K n (map inward given.table))
    pub signs : left.signs ≡ unless_refused why given.signs (map outward (signs_of K n (map inward given.table)))
    pub q : left.q ≡ unless_refused why given.q (map outward (q_of K n (map inward given.table)))
