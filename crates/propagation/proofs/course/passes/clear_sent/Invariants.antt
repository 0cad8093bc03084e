use Rattle.std.proofs.Common.{◌≡◌, pos}
use Rattle.propagation.proofs.Filling.{Filled}
use Rattle.propagation.proofs.course.passes.clear_sent.Given as goal

abbrev pub invariant-loop-i : goal.invariant-loop-i
invariant-loop-i g l =
    Filled (λ x. g.B.Belief.exact x × (g.B.Belief.eighths x ≡ pos 0)) g.B.Belief.eighths (λ j. pos 0) l.initial.sent l.sent l.i
