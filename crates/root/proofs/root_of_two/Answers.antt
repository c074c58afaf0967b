use Rattle.std.proofs.Common.{◌≡◌, sym, ap, ◌∙◌}
use lib.Ieee.{binary64, of_bits, to_bits}
use Rattle.root.specs.Root.{root_of}
use Rattle.root.proofs.RootOfTwo.{root_of_two, back}
use Rattle.root.proofs.root_of_two.Goals as goal

pub returns : goal.returns
returns c =
    let e : c.to_pattern.result ≡ 0x3FF6A09E667F3BCD =
    c.to_pattern.ensures.pattern
    ∙ ap (to_bits binary64) (c.root.ensures.value ∙ ap (root_of binary64) c.two.ensures.value ∙ root_of_two)
    ∙ back in
    record { pattern = e; value = root_of_two ∙ ap (of_bits binary64) (sym e) }
