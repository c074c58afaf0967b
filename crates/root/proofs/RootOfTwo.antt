-- The root of 2, computed. Assumes nothing.
use Rattle.std.proofs.Common.{◌≡◌, refl}
use lib.Count.{count_trailing_zeros}
use lib.Ieee.{binary64, of_bits, of_fields, to_bits, odd, size, span, climb}
use Rattle.root.specs.Root.{root_of, whole_root}

pub root_of_two : root_of binary64 (of_bits binary64 0x4000000000000000) ≡ of_bits binary64 0x3FF6A09E667F3BCD
unfolding root_of of_bits of_fields odd count_trailing_zeros to_bits size span climb whole_root
root_of_two = refl

pub back : to_bits binary64 (of_bits binary64 0x3FF6A09E667F3BCD) ≡ 0x3FF6A09E667F3BCD
unfolding of_bits of_fields odd count_trailing_zeros to_bits size span climb
back = refl
