-- Worked cases of propagation on a matrix of six positions.
use Rattle.std.specs.Prelude.{ℕ, List, ◌≡◌}
use Rattle.check_rules.specs.Offset.{offset_rule}
use Rattle.decoders.specs.Six.{six_question}
use Rattle.propagation.specs.Course.{propagated}

-- what the offset rule's propagation answers
abbrev pub Answers : ℕ → List ℕ → List ℕ → List ℕ → Type 0
Answers limit difference pattern confidence =
    propagated offset_rule limit (six_question difference) ≡ record { pattern = pattern; confidence = confidence }
