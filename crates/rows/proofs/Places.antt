-- Places of a table that stands column by column: row r and column i at r + i * n, with n rows. Assumes nothing.
use Rattle.std.proofs.Common.{◌≡◌, ℕ, suc, ◌+◌, ◌*◌, ◌/◌, ◌%◌, ◌<◌, ◌≢◌, List, map, length, get_or, set, sym, ap, ◌∙◌, ⊎_elim, suc-mul, add_comm, zero-add, arith}
use Rattle.std.specs.List.{range_with_len}
use Rattle.std.proofs.lemmas.Nat.{mod-mul-add, div-mul-add, mul-add-lt}
use Rattle.std.proofs.lemmas.List.FromFn.{length-map-range_with_len, get_or-map-range_with_len}
use Rattle.std.proofs.lemmas.List.{length-set, get_or-set_same, get_or-set_other, same_lists}
use Rattle.std.proofs.lemmas.Bool.{cases_eq}

row_of : (n r i : ℕ) → r < n → (r + i * n) % n ≡ r
row_of n r i h = ap (λ (k : ℕ). k % n) (add_comm r (i * n)) ∙ mod-mul-add i n r h

column_is : (n r i : ℕ) → r < n → (r + i * n) / n ≡ i
column_is n r i h = ap (λ (k : ℕ). k / n) (add_comm r (i * n)) ∙ div-mul-add i n r h

pub same_row : (n r k i j : ℕ) → r < n → k < n → r + i * n ≡ k + j * n → r ≡ k
same_row n r k i j hr hk e = sym (row_of n r i hr) ∙ ap (λ (p : ℕ). p % n) e ∙ row_of n k j hk

pub same_column : (n r k i j : ℕ) → r < n → k < n → r + i * n ≡ k + j * n → i ≡ j
same_column n r k i j hr hk e = sym (column_is n r i hr) ∙ ap (λ (p : ℕ). p / n) e ∙ column_is n k j hk

pub place_below : (w n r i : ℕ) → r < n → i < w → r + i * n < w * n
place_below w n r i hr hi = omega (arith, mul-add-lt i n r w hi hr)

pub first_place : (n r i : ℕ) → i * n + r ≡ r + i * n
first_place n r i = add_comm (i * n) r

pub second_place : (n r i : ℕ) → (i * n + n) + r ≡ r + suc i * n
second_place n r i = omega (arith, suc-mul i n)

-- two lists made by the index that differ at one place
pub set_map_counting : {X : Type 0} (f g : ℕ → X) (n i : ℕ) (v : X) → i < n → g i ≡ v →
    ((j : ℕ) → j < n → j ≢ i → g j ≡ f j) → map g (range_with_len 0 n) ≡ set (map f (range_with_len 0 n)) i v
set_map_counting {X} f g n i v h here other =
    let fs : List X = map f (range_with_len 0 n) in
    let lf : length fs ≡ n = length-map-range_with_len f 0 n in
    let lg : length (map g (range_with_len 0 n)) ≡ n = length-map-range_with_len g 0 n in
    same_lists (map g (range_with_len 0 n)) (set fs i v) (lg ∙ sym lf ∙ sym (length-set fs i v))
    (λ j d below.
    let jn : j < n = omega arith in
    let inf : i < length fs = omega arith in
    get_or-map-range_with_len g 0 n j j d jn (zero-add j) ∙
    ⊎_elim
    (λ (e : j ≡ i). ap g e ∙ here ∙ sym (get_or-set_same fs i v d inf) ∙ ap (λ (k : ℕ). get_or (set fs i v) k d) (sym e))
    (λ (ne : j ≢ i). other j jn ne ∙ sym (get_or-map-range_with_len f 0 n j j d jn (zero-add j)) ∙ sym (get_or-set_other fs i j v d ne))
    (cases_eq j i))
