-- The tolerance of a table is lawful, given or not.
use Rattle.std.proofs.Common.{◌≡◌, true, IsTrue, None, Some, Option, refl}
use lib.Ieee as I
use lib.Ieee.{Float}
use Rattle.std.specs.Float as F
use Rattle.std.specs.Option.{ForSome, unwrap_or}
use Rattle.job.specs.Typed.{is_tolerance, usual_tolerance}

-- the tolerance of a table, given or not
pub tolerance_lawful : (t : Option Float) → ForSome t (λ x. IsTrue (is_tolerance x)) → is_tolerance (unwrap_or t usual_tolerance) ≡ true
unfolding F.float_is_finite I.of_bits I.le
tolerance_lawful None h = refl
tolerance_lawful (Some x) h = h x refl
