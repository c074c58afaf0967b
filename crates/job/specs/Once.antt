-- A table is gathered in one way at most, so that the type of jobs can keep that it is.
use Rattle.std.specs.Prelude.{slice_index_or}
use Rattle.std.specs.Coded.{Coded, Coded-set, coded_ℕ, coded_option}
use Rattle.std.proofs.Math.Dec.{T_prop}
use Rattle.scalar.specs.Ops.{Ops, RealOps}
use Rattle.job.specs.Gathered.{Gathered}
use Rattle.job.specs.Typed.{Typed, entries}

module _ {C R : Type 0} {ops : Ops C R} {real : RealOps R} {j : Typed C R} where
  pub gathered_once : Coded C → Coded R → IsProp (Gathered ops real j)
  gathered_once c r p q i = record {
    whole = Coded-set coded_ℕ _ _ p.whole q.whole i;
    mirrored = λ row column l k. Coded-set (coded_option c) _ _ (p.mirrored row column l k) (q.mirrored row column l k) i;
    sized =
        λ k d l. T_prop (real.is_size (ops.size (slice_index_or (entries ops j) k d))) (p.sized k d l) (q.sized k d l) i;
    largest = Coded-set r _ _ p.largest q.largest i;
  }
