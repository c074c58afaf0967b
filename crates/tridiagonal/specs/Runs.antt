-- Runs of a reduction, and what they have in common. Definitions only.
use Rattle.std.specs.Prelude.{◌≡◌, ℕ, ◌+◌, ◌*◌, ◌<◌, ◌≤◌, List, Option, slice_index_or}
use Rattle.fault.specs.Refusals.{Refusal}
use Rattle.tridiagonal.specs.Assemble.{matrix_q}
use Rattle.tridiagonal.specs.Checks.{refusal_for}
use Rattle.tridiagonal.specs.Householder.{Kind}
use Rattle.tridiagonal.specs.Outcome.{Outcome, Reduced, reduce_outcome, unless_refused, LeftOpen}
use Rattle.tridiagonal.specs.Reduce.{largest_size, reduced_table, values_of, offs_of, signs_of}
use Rattle.tridiagonal.specs.Tables.{lower}

-- what the caller's buffers hold
pub record Buffers (C R : Type 0) : Type 0 where
  pub table : List C
  pub values : List R
  pub offs : List R
  pub signs : List C
  pub scratch : List C

-- a call: the side and the buffers as given, the answer, and the buffers as left
pub record Run (C R : Type 0) : Type 0 where
  pub side : ℕ
  pub given : Buffers C R
  pub answer : Outcome R
  pub left : Buffers C R

abbrev pub buffers : {C R : Type 0} → List C → List R → List R → List C → List C → Buffers C R
buffers t v f s c = record { table = t; values = v; offs = f; signs = s; scratch = c }

abbrev pub call : {C R : Type 0} → ℕ → Buffers C R → Outcome R → Buffers C R → Run C R
call n given answer left = record { side = n; given = given; answer = answer; left = left }

abbrev pub refused_for : {C R : Type 0} → Kind C R → ℕ → Buffers C R → Option Refusal
refused_for K n given = refusal_for K n given.table given.values given.offs given.signs given.scratch

-- A call of `reduce`, by all that it promises.
pub record ReduceRun {C R : Type 0} (K : Kind C R) (n : ℕ) (given : Buffers C R) (outcome : Outcome R) (left : Buffers C R) : Type 0 where
  pub answer : outcome ≡ reduce_outcome (refused_for K n given) n (largest_size K given.table)
  pub table : left.table ≡ unless_refused (refused_for K n given) given.table (reduced_table K n given.table)
  pub values : left.values ≡ unless_refused (refused_for K n given) given.values (values_of K n given.table)
  pub offs : left.offs ≡ unless_refused (refused_for K n given) given.offs (offs_of K n given.table)
  pub signs : left.signs ≡ unless_refused (refused_for K n given) given.signs (signs_of K n given.table)
  pub scratch : LeftOpen (refused_for K n given) given.scratch left.scratch

-- Two tables of side n are alike on and below the diagonal: the same number wherever the row is at least the column.
abbrev pub AlikeBelow : {C : Type 0} → ℕ → List C → List C → Type 0
AlikeBelow {C} n t u = (row column : ℕ) (d : C) → column ≤ row → row < n →
    slice_index_or t (column * n + row) d ≡ slice_index_or u (column * n + row) d

-- The same values, offs and signs are left, and the same Q is made of what is left.
pub record SameForm {C R : Type 0} (K : Kind C R) (n : ℕ) (a b : Buffers C R) : Type 0 where
  pub values : a.values ≡ b.values
  pub offs : a.offs ≡ b.offs
  pub signs : a.signs ≡ b.signs
  pub q : matrix_q K n (lower n 0 n a.table) a.signs ≡ matrix_q K n (lower n 0 n b.table) b.signs

-- Nothing above the diagonal is read but the largest size: any other call whose table is alike on and below the diagonal,
-- both answered by a reduction of one side and one largest size, leaves the same form, whatever the other buffers held.
abbrev pub OnlyLower : {C R : Type 0} → Kind C R → Run C R → Type 0
OnlyLower {C} {R} K run = (other : Run C R) (n : ℕ) (largest : R) →
    ReduceRun K other.side other.given other.answer other.left →
    run.answer ≡ Reduced n largest → other.answer ≡ Reduced n largest →
    AlikeBelow n run.given.table other.given.table →
    SameForm K n run.left other.left
