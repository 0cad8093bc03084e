use mathlib.Core.Path.{refl}
use Rattle.check_rules.specs.Offset.{offset_rule}
use Rattle.decoders.specs.Fit.{pattern_fits}
use Rattle.propagation.specs.Check.{heard, answers}
use Rattle.propagation.specs.Course.{begun, renewed, course, fits_after, stops_at, propagated}
use Rattle.propagation.specs.Passes.{priors, sent_up_to, totals_of}
use Rattle.propagation_cases.proofs.worked.finds_later.Goals as goal

pub returns : goal.returns
unfolding offset_rule pattern_fits heard answers begun renewed course fits_after stops_at propagated priors sent_up_to totals_of
returns c = refl
