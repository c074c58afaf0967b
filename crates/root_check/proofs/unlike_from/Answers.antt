use Rattle.std.proofs.Common.{◌≡◌, ℕ, suc, ◌+◌, ◌-◌, ◌<◌, ◌≤◌, ap, arith}
use Rattle.std.specs.Float.{Format}
use Rattle.root_check.specs.Compare.{unlike_around, unlike_from, shuffled}
use Rattle.root_check.proofs.unlike_from.Goals as goal

next : (f : Format) (w i x : ℕ) → i < w → unlike_from f (w - i) x ≡ unlike_around f x + unlike_from f (w - (i + 1)) (shuffled x)
unfolding unlike_from
next f w i x h = let e : w - i ≡ suc (w - (i + 1)) = omega arith in ap (λ n. unlike_from f n x) e

none : (f : Format) (w i x : ℕ) → w ≤ i → unlike_from f (w - i) x ≡ 0
unfolding unlike_from
none f w i x h = let e : w - i ≡ 0 = omega arith in ap (λ n. unlike_from f n x) e

pub loop-preserved : goal.loop-preserved
loop-preserved g c =
    let l = c.loop in
    record {
      whole = rw (c.unlike_around-n.ensures.count, c.shuffle-x.ensures)
          (omega (arith, next g.F.Binary.format c.args.words l.counter l.x c.loop-test.true, l.invariant.whole));
      few = omega arith;
    }

pub returns : goal.returns
returns g c =
    let l = c.loop in
    omega (arith, none g.F.Binary.format c.args.words l.counter l.x (omega arith), l.invariant.whole)
