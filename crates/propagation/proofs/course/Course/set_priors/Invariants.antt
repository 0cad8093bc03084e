use Rattle.std.proofs.Common.{min, max, get_or}
use Rattle.decoders.specs.declared.state.State.TheVariants.{Raw}
use Rattle.propagation.specs.Passes.{prior}
use Rattle.propagation.specs.Within.{Fine}
use Rattle.propagation.proofs.Filling.{Filled}
use Rattle.propagation.proofs.course.Course.set_priors.Given as goal

abbrev pub invariant-loop-i : goal.invariant-loop-i
invariant-loop-i g l =
    let rule = g.R.CheckRule.meaning l.self.rule.now in
    Filled (Fine g.B.Belief.exact g.B.Belief.eighths rule.known) g.B.Belief.eighths
    (λ j. prior rule (min (max l.self.inquiry.q 1) 12) (get_or l.states j Raw)) l.initial.totals l.totals l.i
