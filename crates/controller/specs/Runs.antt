-- Runs of 16-bit numbers as bytes, highest byte first.
use Rattle.std.specs.Prelude.{◌≡◌, ℕ, ◌+◌, ◌*◌, ◌/◌, ◌%◌, List, map, length, slice_index}
use Rattle.std.specs.List.{range_with_len}

abbrev pub number16 : List ℕ → ℕ → ℕ
number16 bytes i = slice_index bytes (2 * i) * 256 + slice_index bytes (2 * i + 1)

unfoldable pub numbers16 : List ℕ → List ℕ
numbers16 bytes = map (number16 bytes) (range_with_len 0 (length bytes / 2))

-- a run whose last number has one byte is no run of numbers
abbrev pub Whole : List ℕ → Type 0
Whole bytes = length bytes % 2 ≡ 0
