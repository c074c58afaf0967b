-- Where two entries of a table stand: at one place only if they are one.
use Rattle.std.proofs.Common.{◌≡◌, ℕ, ◌*◌, ◌<◌, ◌∙◌, add_comm}
use Rattle.std.proofs.lemmas.Nat.{mul-add-lt, same_from_place}
use Rattle.job.specs.Typed.{place}

module _ (n : ℕ) where
  pub place_inside : (row column : ℕ) → row < n → column < n → place n row column < n * n
  place_inside row column r c = rw (add_comm row (column * n)) (mul-add-lt column n row n c r)

  pub same_place : (row column r c : ℕ) → row < n → r < n → place n row column ≡ place n r c → (column ≡ c) × (row ≡ r)
  same_place row column r c k l e =
      same_from_place column row c r n k l (add_comm (column * n) row ∙ e ∙ add_comm r (c * n))
