use Rattle.std.proofs.Common.{◌≡◌, true, length}
use Rattle.decoders.specs.Fit.{all_below, agrees_at}
use Rattle.decoders.proofs.fit.known_bits_fit.Given as goal

abbrev pub invariant-loop-state : goal.invariant-loop-state
invariant-loop-state l = all_below (agrees_at l.states l.pattern) (length l.yielded) ≡ true
