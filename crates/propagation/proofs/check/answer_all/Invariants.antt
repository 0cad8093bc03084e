use Rattle.std.proofs.Common.{map}
use Rattle.propagation.specs.Check.{answer}
use Rattle.propagation.specs.Within.{Fine}
use Rattle.propagation.proofs.Filling.{Filled}
use Rattle.propagation.proofs.check.answer_all.Given as goal

abbrev pub invariant-loop-place : goal.invariant-loop-place
invariant-loop-place g l =
    let eighths = g.B.Belief.eighths in
    let rule = g.R.CheckRule.meaning l.rule in
    Filled (Fine g.B.Belief.exact eighths rule.known) eighths (answer rule l.bit (map eighths l.initial.part)) l.initial.part l.part l.place-index
