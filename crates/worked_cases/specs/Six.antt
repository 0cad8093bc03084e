-- Alice's key on the matrix of six positions.
use Rattle.std.specs.Prelude.{ℕ, List, [], ◌∷◌}

abbrev pub alice_key : List ℕ
alice_key = 1 ∷ 0 ∷ 1 ∷ 1 ∷ 0 ∷ 0 ∷ []
