-- A parity-check matrix, as its two runs give it: the positions, check after check, and where each check ends in that run.
use Rattle.std.specs.Prelude.{ℕ, List, ◌∷◌, length, slice_index}
use Rattle.std.specs.List.{between}

pub record Code : Type 0 where
  pub number : ℕ
  pub width : ℕ
  pub positions : List ℕ
  pub ends : List ℕ

-- check k begins where the one before it ends, check 0 at 0
abbrev pub start : List ℕ → ℕ → ℕ
start ends k = slice_index (0 ∷ ends) k

abbrev pub end : List ℕ → ℕ → ℕ
end ends k = slice_index ends k

-- the positions of check k
abbrev pub check_in : List ℕ → List ℕ → ℕ → List ℕ
check_in positions ends k = between (start ends k) (end ends k) positions

abbrev pub check : Code → ℕ → List ℕ
check code k = check_in code.positions code.ends k

abbrev pub checks : Code → ℕ
checks code = length code.ends
