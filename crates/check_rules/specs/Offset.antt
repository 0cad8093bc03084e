-- The offset rule.
use Rattle.std.specs.Prelude.{ℕ, ◌-◌, min, List, [], ◌∷◌, fold}
use Rattle.check_rules.specs.Meaning.{Meaning, raw_at}

-- the smallest of the magnitudes, k if there are none
abbrev pub smallest : ℕ → List ℕ → ℕ
smallest k xs = fold min k xs

-- 8 ln((1 - q) / q), rounded, for q from 1 to 12 percent
abbrev pub offset_raw : List ℕ
offset_raw = 37 ∷ 31 ∷ 28 ∷ 25 ∷ 24 ∷ 22 ∷ 21 ∷ 20 ∷ 19 ∷ 18 ∷ 17 ∷ 16 ∷ []

-- the smallest among the others less 4
unfoldable pub offset_rule : Meaning
offset_rule = record { known = 800; raw = raw_at offset_raw; sends = λ others. smallest 800 others - 4 }
