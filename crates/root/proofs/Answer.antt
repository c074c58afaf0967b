-- What the float of the root's pattern is. Assumes nothing.
use Rattle.std.proofs.Common.{◌≡◌, T, sym, ◌∙◌, subst}
use lib.Ieee.{Float, Format, fits, of_bits, to_bits}
use Rattle.root.specs.Root.{IsRoot, root_bits, root_of}
use Rattle.root.specs.Exists.{root_exists, root_fits}
use Rattle.root.specs.Only.{root_only}

pub record Answered (f : Format) (v r : Float) : Type 0 where
  pub value : r ≡ root_of f v
  pub defined : IsRoot f v r
  pub only : (w : Float) → T (fits f w) → IsRoot f v w → w ≡ r

pub answered : (f : Format) (v r : Float) → T (fits f v) → r ≡ of_bits f (root_bits f (to_bits f v)) → Answered f v r
unfolding root_of
answered f v r h e =
    let is = root_exists f v h in
    record {
      value = e;
      defined = subst (IsRoot f v) (sym e) is;
      only = λ w t k. root_only f v w (root_of f v) t (root_fits f v) k is ∙ sym e;
    }
