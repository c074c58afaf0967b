-- The four kinds by name. Definitions only.
use Rattle.std.specs.Prelude.{Float}
use Rattle.std.specs.Float.{binary32, binary64}
use Rattle.scalar.specs.ComplexOps.{complex_ops}
use Rattle.scalar.specs.FloatOps.{float_ops, float_real}
use Rattle.scalar.specs.declared.point.Complex.{Complex}
use Rattle.tridiagonal.specs.Householder.{Kind, kind}

abbrev pub r64 : Kind Float Float
r64 = kind (float_ops binary64) (float_ops binary64) (float_real binary64)

abbrev pub r32 : Kind Float Float
r32 = kind (float_ops binary32) (float_ops binary32) (float_real binary32)

abbrev pub c64 : Kind (Complex Float) Float
c64 = kind (complex_ops (float_ops binary64) (float_real binary64)) (float_ops binary64) (float_real binary64)

abbrev pub c32 : Kind (Complex Float) Float
c32 = kind (complex_ops (float_ops binary32) (float_real binary32)) (float_ops binary32) (float_real binary32)
