-- One check: what its positions give it, and what it sends back.
use Rattle.std.specs.Prelude.{ℕ, ◌+◌, List, map, length, ℤ, pos, ◌-ℤ◌, sum_by, slice_index, slice_index_or, unsigned_abs}
use Rattle.std.specs.List.{range_with_len, remove}
use Rattle.beliefs.specs.Steps.{held, signed}
use Rattle.check_rules.specs.Meaning.{Meaning}
use Rattle.codes.specs.Tells.{sign_bit}

-- the total at the check's i-th position, less what the check last sent there, held to ±k
abbrev pub received : ℕ → List ℤ → List ℕ → List ℤ → ℕ → ℤ
received k totals check last i = held k (slice_index_or totals (slice_index check i) (pos 0) -ℤ slice_index_or last i (pos 0))

unfoldable pub heard : ℕ → List ℤ → List ℕ → List ℤ → List ℤ
heard k totals check last = map (received k totals check last) (range_with_len 0 (length check))

abbrev pub negatives : List ℤ → ℕ
negatives beliefs = sum_by sign_bit beliefs

-- what goes to the i-th position: the others' signs and the difference bit give the sign, the others' magnitudes the magnitude
abbrev pub answer : Meaning → ℕ → List ℤ → ℕ → ℤ
answer rule bit beliefs i =
    signed (negatives (remove beliefs i) + bit) (rule.sends (map unsigned_abs (remove beliefs i)))

unfoldable pub answers : Meaning → ℕ → List ℤ → List ℤ
answers rule bit beliefs = map (answer rule bit beliefs) (range_with_len 0 (length beliefs))
