-- What propagation promises beside its answers.
use Rattle.std.specs.Prelude.{◌≡◌, ℕ, ◌*◌, ◌<◌, ◌≤◌, true, slice_index}
use Rattle.check_rules.specs.Meaning.{Meaning}
use Rattle.decoders.specs.Fit.{pattern_fits}
use Rattle.decoders.specs.Question.{Question, SoundQuestion}
use Rattle.propagation.specs.Course.{iterations, limited, propagated}

-- no confidence passes 17 times the known belief
abbrev pub Bounded : Meaning → ℕ → Type 0
Bounded rule limit =
    (q : Question) → SoundQuestion q → (i : ℕ) → i < q.code.width → slice_index (propagated rule limit q).confidence i ≤ 17 * rule.known

-- if it stopped before its limit, its pattern fits
abbrev pub EarlyFits : Meaning → ℕ → Type 0
EarlyFits rule limit =
    (q : Question) → iterations rule limit q < limited limit → pattern_fits q (propagated rule limit q).pattern ≡ true
