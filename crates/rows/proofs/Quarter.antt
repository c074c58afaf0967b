-- The row (1, 0) turned forward with c 0 and s 1, by computation. Assumes nothing.
use Rattle.std.proofs.Common.{◌≡◌, true, [], ◌∷◌, pos, refl}
use lib.Ieee.{fin, binary64, of_bits, add, mul, neg}
use Rattle.std.specs.Float.{float_zero}
use Rattle.scalar.specs.FloatOps.{float_ops}
use Rattle.rows.specs.declared.direction.Direction.TheVariants.{Forward}
use Rattle.rows.specs.Turns.{turn_of}
use Rattle.rows.specs.Keepers.{kept_turned}
use Rattle.rows.specs.Makes.{all_rows}

-- the bits of 0 and 1
pub quarter : kept_turned (float_ops binary64) (turn_of 0 (of_bits binary64 0) (of_bits binary64 4607182418800017408) Forward)
    (all_rows float_zero 2 1 (of_bits binary64 4607182418800017408 ∷ (of_bits binary64 0 ∷ [])))
    ≡ record { width = 2; rows = (float_zero ∷ (fin true 1 (pos 0) ∷ [])) ∷ [] }
unfolding of_bits add mul neg
quarter = refl
