-- A number typed on or below the diagonal of a table, and its conjugate above: no other place changes.
use Rattle.std.proofs.Common.{◌≡◌, ℕ, ◌*◌, ◌<◌, ◌≤◌, ◌≢◌, List, map, length, get_or, set, Some, None, Option, sym, ap, ◌∙◌, ⊎_elim, arith}
use Rattle.std.proofs.lemmas.List.{length-set, get_or-set_other, get_or-set_same, map-set}
use Rattle.std.proofs.lemmas.Bool.{cases_eq}
use Rattle.scalar.specs.Ops.{Ops}
use Rattle.job.specs.Gathered.{Mirrors, conjugated}
use Rattle.job.specs.Typed.{entry_of, place, placed}
use Rattle.job.proofs.Places.{place_inside, same_place}

module _ {C R : Type 0} (ops : Ops C R) (n : ℕ) (cells : List (Option C)) (row column : ℕ) (x : C) where
  pub placed_whole : length (placed ops n cells row column x) ≡ length cells
  placed_whole =
      length-set (set cells (place n column row) (Some (ops.conj x))) (place n row column) (Some x) ∙
      length-set cells (place n column row) (Some (ops.conj x))

  pub placed_entries : map (entry_of ops) (placed ops n cells row column x) ≡
      set (set (map (entry_of ops) cells) (place n column row) (ops.conj x)) (place n row column) x
  placed_entries =
      map-set (entry_of ops) (set cells (place n column row) (Some (ops.conj x))) (place n row column) (Some x) ∙
      ap (λ xs. set xs (place n row column) x) (map-set (entry_of ops) cells (place n column row) (Some (ops.conj x)))

  untouched : (i : ℕ) → i ≢ place n column row → i ≢ place n row column →
      get_or (placed ops n cells row column x) i None ≡ get_or cells i None
  untouched i p q =
      get_or-set_other (set cells (place n column row) (Some (ops.conj x))) (place n row column) i (Some x) None q ∙
      get_or-set_other cells (place n column row) i (Some (ops.conj x)) None p

  module _ (whole : length cells ≡ n * n) (lower : column ≤ row) (inside : row < n) where
    pub at_inside : place n row column < length cells
    at_inside = rw whole (place_inside n row column inside (omega arith))

    pub above_inside : place n column row < length cells
    above_inside = rw whole (place_inside n column row (omega arith) inside)

    module _ (mirrored : (r c : ℕ) → c < r → r < n → Mirrors ops n cells r c) where
      -- what is free on or below the diagonal is free above it
      pub above_free : get_or cells (place n row column) None ≡ None → get_or cells (place n column row) None ≡ None
      above_free free = ⊎_elim on below (cases_eq column row)
        where
          on : column ≡ row → get_or cells (place n column row) None ≡ None
          on e = ap (λ c. get_or cells (place n c row) None) e ∙ (ap (λ c. get_or cells (place n row c) None) (sym e) ∙ free)

          below : (column ≡ row → ⊥) → get_or cells (place n column row) None ≡ None
          below ne = mirrored row column (omega arith) inside ∙ ap (conjugated ops) free

      -- the entry typed, below the diagonal
      spot : column < row → Mirrors ops n (placed ops n cells row column x) row column
      spot l =
          get_or-set_other first (place n row column) (place n column row) (Some x) None
          (λ e. omega (arith, (same_place n column row row column (omega arith) inside e).1)) ∙
          get_or-set_same cells (place n column row) (Some (ops.conj x)) None above_inside ∙
          sym (ap (conjugated ops) (get_or-set_same first (place n row column) (Some x) None within))
        where
          first : List (Option C)
          first = set cells (place n column row) (Some (ops.conj x))

          within : place n row column < length (set cells (place n column row) (Some (ops.conj x)))
          within = rw (length-set cells (place n column row) (Some (ops.conj x))) at_inside

      -- any other entry
      elsewhere : (r c : ℕ) → c < r → r < n → (r ≡ row → c ≡ column → ⊥) → Mirrors ops n (placed ops n cells row column x) r c
      elsewhere r c l k ne =
          untouched (place n c r)
          (λ e. let s = same_place n c r column row inner low e in ne s.0 s.1)
          (λ e. let s = same_place n c r row column inner inside e in omega (arith, s.0, s.1)) ∙
          mirrored r c l k ∙
          sym (ap (conjugated ops) (untouched (place n r c)
          (λ e. let s = same_place n r c column row k low e in omega (arith, s.0, s.1))
          (λ e. let s = same_place n r c row column k inside e in ne s.1 s.0)))
        where
          inner : c < n
          inner = omega arith

          low : column < n
          low = omega arith

      pub placed_mirrored : (r c : ℕ) → c < r → r < n → Mirrors ops n (placed ops n cells row column x) r c
      placed_mirrored r c l k =
          ⊎_elim (λ er. ⊎_elim (here er) (λ ne. elsewhere r c l k (λ _ ec. ne ec)) (cases_eq c column))
          (λ ne. elsewhere r c l k (λ er _. ne er)) (cases_eq r row)
        where
          here : r ≡ row → c ≡ column → Mirrors ops n (placed ops n cells row column x) r c
          here er ec = rw (er, ec) (spot (rw (← er, ← ec) l))
