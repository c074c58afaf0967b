-- Complex numbers as they cross. Definitions only.
use Rattle.std.specs.Prelude.{Float}
use Rattle.scalar.specs.declared.point.Complex.{Complex}
use Rattle.symmetric_eigen_c.specs.declared.points.Complex64.{Complex64}
use Rattle.symmetric_eigen_c.specs.declared.points.Complex32.{Complex32}

abbrev pub complex_of_64 : Complex64 → Complex Float
complex_of_64 x = record { re = x.re; im = x.im }

abbrev pub complex_of_32 : Complex32 → Complex Float
complex_of_32 x = record { re = x.re; im = x.im }

abbrev pub point_64 : Complex Float → Complex64
point_64 x = record { re = x.re; im = x.im }

abbrev pub point_32 : Complex Float → Complex32
point_32 x = record { re = x.re; im = x.im }
