-- The text of a refusal, as bytes. Definitions only.
use Rattle.std.specs.Prelude.{List, ℕ, ◌++◌, codes, decimal}
use Rattle.fault.specs.Refusals.{Refusal}

-- its number alone
abbrev pub refusal_text : Refusal → List ℕ
refusal_text r = codes "refused " ++ decimal r.number
