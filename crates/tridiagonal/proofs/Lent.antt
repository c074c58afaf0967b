-- What a column holds after its first entry, or a part of it lent from its middle, was written.
use Rattle.std.proofs.Common.{◌≡◌, ℕ, ◌+◌, ◌-◌, ◌<◌, ◌≤◌, List, [], ◌∷◌, ◌++◌, length, take, drop, set, ap, ◌∙◌, arith, length-drop}
use borrow.Rule.Slice.PartMut.{put_mid, same_len_mid, take_put}
use Rattle.std.proofs.lemmas.List.{append-nil, drop_all, take_more_set}

module _ {C : Type 0} where
  -- a part from a to the end
  pub end_written : (a : ℕ) (xs ys : List C) → put_mid a (length xs - a) xs ys ≡ take a xs ++ ys
  end_written a xs ys =
      let none : drop (length xs - a) (drop a xs) ≡ [] = drop_all (length xs - a) (drop a xs) (let n = length-drop a xs in omega arith) in
      ap (λ (l : List C). take a xs ++ (ys ++ l)) none ∙ ap (λ (l : List C). take a xs ++ l) (append-nil ys)

  -- an entry set after the part from it on was written
  pub first_of_part_set : (i : ℕ) (xs ys : List C) (v : C) → i < length xs → length ys ≡ length (take (length xs - i) (drop i xs)) →
      take (i + 1) (set (put_mid i (length xs - i) xs ys) i v) ≡ take i xs ++ (v ∷ [])
  first_of_part_set i xs ys v h same =
      let long = same_len_mid i (length xs - i) xs ys same in
      let within : i < length (put_mid i (length xs - i) xs ys) = omega arith in
      let start : i ≤ length xs = omega arith in
      cc (take_more_set (put_mid i (length xs - i) xs ys) i v within, take_put i (length xs - i) xs ys start)
