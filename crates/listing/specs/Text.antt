-- The text of a line, as bytes. Definitions only.
use Rattle.std.specs.Prelude.{ℕ, zero, suc, ◌+◌, ◌/◌, ◌%◌, cond, List, [], ◌∷◌, ◌++◌, codes, decimal, nat_lt}
use Rattle.sheet.specs.Kinds.{kind_number}
use Rattle.listing.specs.declared.line.Line.{Line}
use Rattle.listing.specs.declared.line.Line.TheVariants.{Heading, Value, Entry, OutlineEntry}

-- A digit from 0 to 15: 0 to 9, then A to F.
abbrev pub hex_digit : ℕ → ℕ
hex_digit d = cond (nat_lt d 10) (48 + d) (55 + d)

-- The last `count` hexadecimal digits of a number.
unfoldable pub hex_digits : ℕ → ℕ → List ℕ
hex_digits zero n = []
hex_digits (suc count) n = hex_digits count (n / 16) ++ (hex_digit (n % 16) ∷ [])

-- The words of each line. Bits are sixteen hexadecimal digits, other fields decimal.
abbrev pub line_text : Line → List ℕ
line_text (Heading kind side largest passes) =
    codes "kind " ++ (decimal (kind_number kind) ++ (codes " side " ++ (decimal side ++ (codes " largest " ++ (hex_digits 16 largest ++
    (codes " passes " ++ decimal passes))))))
line_text (Value index bits) = codes "value " ++ (decimal index ++ (codes " " ++ hex_digits 16 bits))
line_text (Entry row column bits) =
    codes "row " ++ (decimal row ++ (codes " column " ++ (decimal column ++ (codes " " ++ hex_digits 16 bits))))
line_text (OutlineEntry row column across along) =
    codes "row " ++ (decimal row ++ (codes " column " ++ (decimal column ++ (codes " " ++ (hex_digits 16 across ++
    (codes " " ++ hex_digits 16 along))))))

abbrev pub refusal_text : ℕ → ℕ → List ℕ
refusal_text number place = codes "refused " ++ (decimal number ++ (codes " at " ++ decimal place))
