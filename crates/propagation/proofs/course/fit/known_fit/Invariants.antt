use Rattle.std.proofs.Common.{◌≡◌, true, map, length}
use Rattle.decoders.specs.Fit.{all_below, agrees_at}
use Rattle.propagation.specs.Course.{pattern_of}
use Rattle.propagation.proofs.course.fit.known_fit.Given as goal

abbrev pub invariant-loop-state : goal.invariant-loop-state
invariant-loop-state g l = all_below (agrees_at l.states (pattern_of (map g.B.Belief.eighths l.totals))) (length l.yielded) ≡ true
