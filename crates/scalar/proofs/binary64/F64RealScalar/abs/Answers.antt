use lib.Ieee.{binary64}
use Rattle.scalar.specs.Lawful.{float_sized, float_laws}
use Rattle.scalar.proofs.binary64.F64RealScalar.abs.Goals as goal

pub returns : goal.returns
returns c = record {
  value = c.modulus.ensures.value;
  sized = float_sized binary64 c.args.self c.modulus.result c.modulus.type_inv c.modulus.ensures.value;
  laws = float_laws binary64;
}
