-- What working words hold.
use Rattle.std.specs.Prelude.{◌≡◌, ℕ, ◌<◌, List, ℤ, pos, slice_index_or}

-- word i holds the count f i, for each i below n
abbrev pub Holds : List ℤ → (ℕ → ℕ) → ℕ → Type 0
Holds words f n = (i : ℕ) → i < n → slice_index_or words i (pos 0) ≡ pos (f i)
