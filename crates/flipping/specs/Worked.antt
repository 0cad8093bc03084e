-- A worked case: six raw positions, three checks, the first of which differs.
use Rattle.std.specs.Prelude.{[], ◌∷◌}
use Rattle.decoders.specs.Question.{Question, Answer}
use Rattle.decoders.specs.Six.{six_question}

abbrev pub small_question : Question
small_question = six_question (1 ∷ 0 ∷ 0 ∷ [])

-- position 0 is flipped, and back
abbrev pub small_answer : Answer
small_answer =
    record {
      pattern = 0 ∷ 0 ∷ 0 ∷ 0 ∷ 0 ∷ 0 ∷ [];
      confidence = 16 ∷ 16 ∷ 18 ∷ 15 ∷ 17 ∷ 17 ∷ [];
    }
