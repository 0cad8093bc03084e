use Rattle.std.proofs.Common.{ℕ, ◌+◌, length, take}
use Rattle.codes.specs.Admission.{degree}
use Rattle.flipping.specs.Words.{Holds}
use Rattle.flipping.proofs.counts.tally.Given as goal

abbrev pub invariant-loop-p : goal.invariant-loop-p
invariant-loop-p l =
    (f : ℕ → ℕ) → Holds l.initial.counts f (length l.initial.counts)
    → Holds l.counts (λ i. f i + degree (take l.p-index l.entries) i) (length l.initial.counts)
