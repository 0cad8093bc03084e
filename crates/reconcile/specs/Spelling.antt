-- How bits are printed.
use Rattle.std.specs.Prelude.{ℕ, ◌==◌, if◌then◌else◌, List, [], ◌∷◌, ◌++◌, map, codes}
use Rattle.std.specs.Fmt.{decimal}
use Rattle.std.specs.List.{flat_map}

abbrev pub bit_digit : ℕ → ℕ
bit_digit bit = if bit == 0 then 48 else 49

-- a digit a bit
abbrev pub bit_digits : List ℕ → List ℕ
bit_digits bits = map bit_digit bits

-- the same, and no bits are a dash
abbrev pub run_digits : List ℕ → List ℕ
run_digits [] = codes "-"
run_digits (bit ∷ bits) = bit_digits (bit ∷ bits)

-- numbers behind single spaces
abbrev pub spaced : List ℕ → List ℕ
spaced numbers = flat_map (λ x. codes " " ++ decimal x) numbers
