use Rattle.std.proofs.Common.{◌≡◌, ◌-◌}
use Rattle.codes.specs.Syndrome.{IsKey}
use Rattle.decoders.specs.Inquiry.{question}
use Rattle.flipping.specs.Flips.{run}
use Rattle.flipping.proofs.pattern.settle.Given as goal

-- what is left to do, from where it is, gives what the whole was to give
abbrev pub invariant-loop : goal.invariant-loop
invariant-loop l =
    IsKey l.front.inquiry.matrix.now.width l.pattern
    × (run (question l.front.inquiry) (l.limit - l.counter) l.pattern ≡ run (question l.front.inquiry) l.limit l.initial.pattern)
