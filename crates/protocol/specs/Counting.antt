-- Counting and testing by place.
use Rattle.std.specs.Prelude.{ℕ, zero, suc, ◌+◌, Bool, true, false, cond, ◌&&◌, List, [], ◌∷◌, map, ◌==◌}
use Rattle.std.specs.List.{range_with_len}

-- how many places below n pass a test
unfoldable pub tally : (ℕ → Bool) → ℕ → ℕ
tally test zero = 0
tally test (suc n) = tally test n + cond (test n) 1 0

-- two lists of numbers are the same
abbrev pub same : List ℕ → List ℕ → Bool
same [] [] = true
same [] (y ∷ ys) = false
same (x ∷ xs) [] = false
same (x ∷ xs) (y ∷ ys) = x == y && same xs ys

-- a list made from a function of the place
unfoldable pub list_of : ℕ → (ℕ → ℕ) → List ℕ
list_of n f = map f (range_with_len 0 n)
