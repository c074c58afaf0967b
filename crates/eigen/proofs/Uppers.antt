-- What stands above the diagonal has no say in a run. Assumes nothing.
use Rattle.std.proofs.Common.{◌≡◌, ℕ, sym, ◌∙◌}
use Rattle.scalar.specs.Ops.{Ops, RealOps}
use Rattle.tridiagonal.specs.Householder.{kind}
use Rattle.tridiagonal.specs.Runs.{Run as Reducing, SameForm}
use Rattle.tridiagonal.proofs.Law.{only_lower}
use Rattle.eigen.specs.Laws.{Start, Finish, IsRun, AlikeButKeeper, Takes, AnyKeeper, AnyUpper}
use Rattle.eigen.proofs.Agreement.{any_keeper}

module _ {C R : Type 0} (ops : Ops C R) (rops : Ops R R) (real : RealOps R) where
  alike : (n : ℕ) (l : R) (s t : Start C R) (a b : Reducing C R) → SameForm (kind ops rops real) n a.left b.left →
      Takes s a n l → Takes t b n l → s.tolerance ≡ t.tolerance → AlikeButKeeper s t
  alike n l s t a b same p q tolerance = record {
    side = p.side ∙ sym q.side;
    largest = p.largest ∙ sym q.largest;
    values = p.values ∙ same.values ∙ sym q.values;
    offs = p.offs ∙ same.offs ∙ sym q.offs;
    tolerance = tolerance;
    first = p.width ∙ sym p.side;
    second = q.width ∙ sym q.side;
  }

  pub any_upper : (s : Start C R) (limit : ℕ) (f : Finish C R) → IsRun ops rops real s limit f → AnyUpper ops rops real s limit f
  unfolding AnyUpper AnyKeeper
  any_upper s limit f run n l a b t g ra rb below p q tolerance other =
      let same = only_lower (kind ops rops real) a.side a.given a.answer a.left ra b n l rb p.reduced q.reduced below in
      (same, any_keeper ops rops real s limit f run t g (alike n l s t a b same p q tolerance) other)
