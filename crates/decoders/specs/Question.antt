-- What a decoder is asked and what it answers.
use Rattle.std.specs.Prelude.{◌≡◌, ℕ, ◌<◌, ◌≤◌, min, max, List, map, length, take, slice_index}
use Rattle.codes.specs.Admission.{Admissible}
use Rattle.codes.specs.Code.{Code, checks}
use Rattle.codes.specs.Syndrome.{IsKey}
use Rattle.decoders.specs.declared.state.State.{State}

-- a matrix, one difference bit a check, one state a position, an error class in percent
pub record Question : Type 0 where
  pub code : Code
  pub difference : List ℕ
  pub states : List State
  pub class : ℕ

-- a bit and a confidence for each position
pub record Answer : Type 0 where
  pub pattern : List ℕ
  pub confidence : List ℕ

-- a difference byte over 1 counts as 1
abbrev pub bit_of : ℕ → ℕ
bit_of b = min b 1

-- the question that a call asks: of longer runs the front counts, a class out of range is the nearer end
unfoldable pub asked : Code → List ℕ → List State → ℕ → Question
asked code difference states q =
    record {
      code = code;
      difference = map bit_of (take (checks code) difference);
      states = take code.width states;
      class = min (max q 1) 12;
    }

pub record SoundQuestion (q : Question) : Type 0 where
  pub matrix : Admissible q.code.width (checks q.code) q.code.positions q.code.ends
  pub difference : IsKey (checks q.code) q.difference
  pub states : length q.states ≡ q.code.width
  pub low : 1 ≤ q.class
  pub high : q.class ≤ 12

-- n bits, and n confidences of at most 100,000
pub record SoundAnswer (n : ℕ) (a : Answer) : Type 0 where
  pub pattern : IsKey n a.pattern
  pub confident : length a.confidence ≡ n
  pub bounded : (i : ℕ) → i < n → slice_index a.confidence i ≤ 100000
