-- The sizes that a parity-check matrix may have.
use Rattle.std.specs.Prelude.{ℕ, ◌<◌, ◌≤◌}

-- n positions and m checks: fewer checks than positions
abbrev pub Sizes : ℕ → ℕ → Type 0
Sizes n m = (2 ≤ n) × (n ≤ 2048) × (1 ≤ m) × (m ≤ 1024) × (m < n)
