-- Two decoders as one.
use Rattle.std.specs.Prelude.{max, cond}
use Rattle.std.proofs.lemmas.Bool.{cond_both}
use Rattle.decoders.specs.Question.{SoundAnswer}
use Rattle.decoders.specs.Decoding.{Rule, Room, Formed}
use Rattle.decoders.specs.Fit.{pattern_fits}

-- the first's answer if that fits, otherwise the second's
unfoldable pub pile_rule : Rule → Rule → Rule
pile_rule first second q = cond (pattern_fits q (first q).pattern) (first q) (second q)

-- the greater need of the two
abbrev pub pile_room : Room → Room → Room
pile_room first second n m entries = max (first n m entries) (second n m entries)

-- it answers well where both do
pub pile_formed : (first second : Rule) → Formed first → Formed second → Formed (pile_rule first second)
unfolding pile_rule
pile_formed first second f s q sound =
    cond_both (pattern_fits q (first q).pattern) (first q) (second q) (SoundAnswer q.code.width) (λ _. f q sound) (λ _. s q sound)
