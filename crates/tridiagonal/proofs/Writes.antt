-- Loops that write a column in place, from the first entry on.
use Rattle.std.proofs.Common.{◌≡◌, ℕ, ◌+◌, ◌<◌, ◌≤◌, List, [], ◌∷◌, ◌++◌, length, get_or, take, drop, set, sym, ap, ◌∙◌, append_assoc, arith, drop-set-lt}
use Rattle.std.proofs.lemmas.List.{take_more_set, drop_more, append-nil, take_all}

-- One entry more: H makes what is left of the column, and H' the rest after it.
pub write_more : {C : Type 0} (H H' : List C → List C) (ys : List C) (i : ℕ) (v d : C) → i < length ys →
    H (get_or ys i d ∷ drop (i + 1) ys) ≡ v ∷ H' (drop (i + 1) ys) →
    take (i + 1) (set ys i v) ++ H' (drop (i + 1) (set ys i v)) ≡ take i ys ++ H (drop i ys)
write_more {C} H H' ys i v d h e =
    let below : i < i + 1 = omega arith in
    let front = take_more_set ys i v h in
    let back = drop-set-lt (i + 1) ys i v below in
    let here = drop_more ys i d h in
    ap (λ (l : List C). l ++ H' (drop (i + 1) (set ys i v))) front
    ∙ append_assoc (take i ys) (v ∷ []) (H' (drop (i + 1) (set ys i v)))
    ∙ ap (λ (l : List C). take i ys ++ (v ∷ H' l)) back
    ∙ ap (λ (l : List C). take i ys ++ l) (sym e)
    ∙ ap (λ (l : List C). take i ys ++ H l) (sym here)

-- At the end nothing is left.
pub written : {C : Type 0} (ys zs : List C) (i : ℕ) → length ys ≤ i → zs ≡ [] → take i ys ++ zs ≡ ys
written {C} ys zs i h e =
    ap (λ (l : List C). take i ys ++ l) e ∙ append-nil (take i ys) ∙ take_all i ys h

-- What is left of the column does not depend on it.
pub write_out : {C : Type 0} (Z Z' ys : List C) (i : ℕ) (v : C) → i < length ys → Z ≡ v ∷ Z' →
    take (i + 1) (set ys i v) ++ Z' ≡ take i ys ++ Z
write_out Z Z' ys i v h e = write_more (λ _. Z) (λ _. Z') ys i v v h e
