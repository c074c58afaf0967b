-- What opening a table comes to. Definitions only.
use Rattle.std.specs.Prelude.{ℕ, Bool, true, false, cond, [], Ok, Err, Result}
use Rattle.fault.specs.Refusals.{Refusal, refused}
use Rattle.scalar.specs.Ops.{Ops}
use Rattle.job.specs.declared.job.Job.{Job}
use Rattle.job.specs.declared.rejected.Unopened.{Unopened}
use Rattle.job.specs.declared.rejected.Unopened.TheVariants.{Operand, Memory}
use Rattle.job.specs.Shown.{typed}
use Rattle.job.specs.Typed.{Typed, is_side, blank}

-- Want of memory bears no number.
pub data Opening (C R : Type 0) : Type 0 where
  made : Typed C R → Opening C R
  declined : Refusal → Opening C R
  starved : Opening C R

module _ {C R : Type 0} where
  abbrev pub opening : {a b c : _} → Result (Job C R a b c) Unopened → Opening C R
  opening (Ok j) = made (typed j)
  opening (Err Operand) = declined (refused 13 [])
  opening (Err Memory) = starved

  -- Whether the answer is other than want of memory. It tests the answer and not the memory: want of memory is open on every lawful side.
  abbrev pub had_room : {a b c : _} → Result (Job C R a b c) Unopened → Bool
  had_room (Ok j) = true
  had_room (Err Operand) = true
  had_room (Err Memory) = false

  -- a side outside is refused with or without room
  abbrev pub opened : Ops C R → ℕ → Bool → Opening C R
  opened ops side room = cond (is_side side) (cond room (made (blank ops side)) starved) (declined (refused 13 []))
