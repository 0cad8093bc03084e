use Rattle.std.proofs.Common.{◌≡◌, refl}
use Rattle.decoders.specs.Fit.{pattern_fits}
use Rattle.flipping.specs.Flips.{met, unmet, run, confidences, flipping_rule}
use Rattle.flipping.specs.Worked.{small_question, small_answer}
use Rattle.flipping.proofs.worked.worked_case.Goals as goal

computed : flipping_rule 2 small_question ≡ small_answer
unfolding pattern_fits met unmet run confidences flipping_rule
computed = refl

pub returns : goal.returns
returns c = cc (c.new.ensures.value, computed)
