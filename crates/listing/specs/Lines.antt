-- The lines of a listing, each with its newline. Definitions only.
use Rattle.std.specs.Prelude.{ℕ, List, [], ◌∷◌, ◌++◌, Some, None, Option}
use Rattle.std.specs.List.{flat_map}
use Rattle.sheet.specs.Faults.{Why, numbered}
use Rattle.sheet.specs.Sheets.{Stop}
use Rattle.listing.specs.declared.line.Line.{Line}
use Rattle.listing.specs.Listings.{Listed}
use Rattle.listing.specs.Text.{line_text, refusal_text}

abbrev pub ended : List ℕ → List ℕ
ended text = text ++ (10 ∷ [])

abbrev pub printed : Line → List ℕ
printed line = ended (line_text line)

-- Want of memory has no number, and no line.
abbrev pub number_line : Option ℕ → ℕ → List ℕ
number_line None place = []
number_line (Some number) place = ended (refusal_text number place)

abbrev pub refusal_line : Why → ℕ → List ℕ
refusal_line w place = number_line (numbered w) place

abbrev pub last_line : Option Stop → List ℕ
last_line None = []
last_line (Some x) = refusal_line x.why x.place

abbrev pub listing_text : Listed → List ℕ
listing_text l = flat_map printed l.lines ++ last_line l.refusal
