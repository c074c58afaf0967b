use lib.Ieee.{binary32}
use Rattle.scalar.specs.Lawful.{float_sized, float_laws}
use Rattle.scalar.proofs.binary32.F32RealScalar.abs.Goals as goal

pub returns : goal.returns
returns c = record {
  value = c.modulus.ensures.value;
  sized = float_sized binary32 c.args.self c.modulus.result c.modulus.type_inv c.modulus.ensures.value;
  laws = float_laws binary32;
}
