use Rattle.std.proofs.Common.{◌≡◌, ℕ, length, MatchOption, ◌≢◌}
use Rattle.flipping.specs.Words.{Holds}
use Rattle.flipping.specs.Flips.{votes, most, leader}
use Rattle.flipping.proofs.choice.most_unmet.Given as goal

abbrev pub invariant-loop-i : goal.invariant-loop-i
invariant-loop-i l =
    (f : ℕ → ℕ) → Holds l.counts f (length l.states)
    → (l.most ≡ most (votes l.states f) l.i)
    × MatchOption l.leader (l.most ≡ 0) (λ i. (l.most ≢ 0) × (i ≡ leader (votes l.states f) l.i))
