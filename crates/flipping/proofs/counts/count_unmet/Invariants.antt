use Rattle.codes.specs.Of.{code_of}
use Rattle.decoders.specs.Inquiry.{question}
use Rattle.flipping.specs.Words.{Holds}
use Rattle.flipping.specs.Flips.{holding, misses}
use Rattle.flipping.proofs.counts.count_unmet.Given as goal

-- of the checks that were passed
abbrev pub invariant-loop-k : goal.invariant-loop-k
invariant-loop-k l =
    Holds l.counts (holding (code_of l.front.inquiry.matrix.now) (misses (question l.front.inquiry) l.pattern) l.k) l.front.inquiry.matrix.now.width
