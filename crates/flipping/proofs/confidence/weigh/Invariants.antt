use Rattle.std.proofs.Common.{◌≡◌, ℕ, ◌+◌, ◌-◌, ◌<◌, ◌≤◌, get_or}
use Rattle.codes.specs.Places.{AllBelow}
use Rattle.codes.specs.Admission.{degree}
use Rattle.codes.specs.Of.{code_of}
use Rattle.decoders.specs.Inquiry.{question}
use Rattle.flipping.specs.Flips.{met, unmet}
use Rattle.flipping.proofs.confidence.weigh.Given as goal

-- what is written, and what is only counted yet
abbrev pub invariant-loop-i : goal.invariant-loop-i
invariant-loop-i l =
    AllBelow (λ k. get_or l.confidence k 0 ≡ 16 + met (question l.front.inquiry) l.pattern k - unmet (question l.front.inquiry) l.pattern k) l.i
    × ((k : ℕ) → l.i ≤ k → k < l.front.inquiry.matrix.now.width → get_or l.confidence k 0 ≡ degree (code_of l.front.inquiry.matrix.now).positions k)
