-- The question of the worked cases: every position raw, 5 percent.
use Rattle.std.specs.Prelude.{ℕ, List, [], ◌∷◌}
use Rattle.codes.specs.Six.{six_positions}
use Rattle.decoders.specs.Question.{Question}
use Rattle.decoders.specs.declared.state.State.TheVariants.{Raw}

abbrev pub six_question : List ℕ → Question
six_question difference =
    record {
      code = six_positions;
      difference = difference;
      states = Raw ∷ Raw ∷ Raw ∷ Raw ∷ Raw ∷ Raw ∷ [];
      class = 5;
    }
