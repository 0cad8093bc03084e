-- The matrix of the worked cases: six positions, the checks {0, 1, 3}, {1, 2, 4} and {0, 2, 5}.
use Rattle.std.specs.Prelude.{[], ◌∷◌}
use Rattle.codes.specs.Code.{Code}

abbrev pub six_positions : Code
six_positions =
    record {
      number = 1;
      width = 6;
      positions = 0 ∷ 1 ∷ 3 ∷ 1 ∷ 2 ∷ 4 ∷ 0 ∷ 2 ∷ 5 ∷ [];
      ends = 3 ∷ 6 ∷ 9 ∷ [];
    }
