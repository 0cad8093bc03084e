-- The table rule, over the tables f2a, from magnitudes to summands, and a2f, from sums to magnitudes.
use Rattle.std.specs.Prelude.{◌≡◌, ℕ, zero, suc, ◌*◌, ◌≤◌, min, cond, List, length, sum_by, count_by, ◌==◌, nat_eq, slice_index}
use Rattle.check_rules.specs.Meaning.{Meaning, raw_at}

-- a table's entries count from 1
abbrev pub entry : List ℕ → ℕ → ℕ
entry table zero = 0
entry table (suc x) = slice_index table x

abbrev pub zeros : List ℕ → ℕ
zeros xs = count_by (λ x. nat_eq x 0) xs

-- a sum of 0 sends the largest magnitude, any other its entry, past the table's end the last one
abbrev pub from_sum : List ℕ → List ℕ → ℕ → ℕ
from_sum f2a a2f sum = cond (sum == 0) (length f2a) (entry a2f (min sum (length a2f)))

-- if any other magnitude is 0, nothing is sent
abbrev pub table_sends : List ℕ → List ℕ → List ℕ → ℕ
table_sends f2a a2f others = cond (zeros others == 0) (from_sum f2a a2f (sum_by (entry f2a) others)) 0

unfoldable pub table_rule : List ℕ → List ℕ → List ℕ → Meaning
table_rule f2a a2f raw = record { known = length f2a; raw = raw_at raw; sends = table_sends f2a a2f }

-- what is kept of the magnitudes while they are gathered
pub record SumsOf (f2a xs : List ℕ) (zeros_in sum_of : ℕ) : Type 0 where
  pub zeros_is : zeros_in ≡ zeros xs
  pub sum_is : sum_of ≡ sum_by (entry f2a) xs
  pub bound : sum_of ≤ 65535 * length xs
