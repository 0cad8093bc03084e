use Rattle.std.proofs.Common.{◌≡◌, get_or}
use Rattle.codes.specs.Places.{AllBelow}
use Rattle.decoders.specs.declared.state.State.TheVariants.{Raw}
use Rattle.flipping.specs.Flips.{start_bit}
use Rattle.flipping.proofs.pattern.start_pattern.Given as goal

abbrev pub invariant-loop-i : goal.invariant-loop-i
invariant-loop-i l = AllBelow (λ k. get_or l.pattern k 0 ≡ start_bit (get_or l.states k Raw)) l.i
