-- What a frame says, in plain numbers and bits.
use Rattle.std.specs.Prelude.{◌≡◌, ℕ, ◌^◌, ◌<◌, ◌≤◌, List, length, sum}
use Rattle.runs.specs.Bits.{IsBits}

pub data FrameShape : Type 0 where
  -- side, block, syndrome bits
  syndrome_frame : ℕ → ℕ → List ℕ → FrameShape
  -- side, block, round, map of the positions that are disclosed in it, and a bit for each of these
  disclosure_frame : ℕ → ℕ → ℕ → List ℕ → List ℕ → FrameShape

-- the frames of a matrix with n positions and m checks
abbrev pub WellFormed : ℕ → ℕ → FrameShape → Type 0
WellFormed n m (syndrome_frame side block bits) = (side < 2) × (block < 2 ^ 32) × (length bits ≡ m) × IsBits bits
WellFormed n m (disclosure_frame side block round named values) =
    (side < 2) × (block < 2 ^ 32) × (1 ≤ round) × (round < 2 ^ 16) × (length named ≡ n) × IsBits named
    × (length values ≡ sum named) × IsBits values
