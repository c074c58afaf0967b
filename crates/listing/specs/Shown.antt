-- How the numbers of each kind are listed. Definitions only.
use Rattle.std.specs.Prelude.{ℕ, to_bits, Float}
use Rattle.std.specs.Float.{binary64}
use Rattle.scalar.specs.declared.point.Complex.{Complex}
use Rattle.sheet.specs.declared.kind.Kind.{Kind}
use Rattle.sheet.specs.declared.kind.Kind.TheVariants.{Real, Outline}
use Rattle.listing.specs.declared.line.Line.{Line}
use Rattle.listing.specs.declared.line.Line.TheVariants.{Entry, OutlineEntry}

-- the kind of table that they stand in, and the line of a number at a row and a column
pub record ShownAs (C : Type 0) : Type 0 where
  pub kind : Kind
  pub line : ℕ → ℕ → C → Line

abbrev pub real_line : ℕ → ℕ → Float → Line
real_line row column x = Entry row column (to_bits binary64 x)

abbrev pub outline_line : ℕ → ℕ → Complex Float → Line
outline_line row column z = OutlineEntry row column (to_bits binary64 z.re) (to_bits binary64 z.im)

abbrev pub reals_shown : ShownAs Float
reals_shown = record { kind = Real; line = real_line }

abbrev pub outlines_shown : ShownAs (Complex Float)
outlines_shown = record { kind = Outline; line = outline_line }
