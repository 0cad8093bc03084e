-- What flipping promises of every answer.
use Rattle.std.specs.Prelude.{◌≡◌, ℕ, zero, suc, ◌<◌, ◌≤◌, true, false, List, map, ◌≢◌, slice_index_or}
use Rattle.decoders.specs.Question.{Question, SoundQuestion}
use Rattle.decoders.specs.Fit.{is_known, place_fits}
use Rattle.decoders.specs.declared.state.State.{State}
use Rattle.decoders.specs.declared.state.State.TheVariants.{Raw}
use Rattle.flipping.specs.Flips.{most, leader, flipped, start_bit, limit_of, flipping_rule}

-- every known position has its known bit
abbrev pub KeepsKnown : ℕ → Type 0
KeepsKnown limit =
    (q : Question) → SoundQuestion q → (i : ℕ) → i < q.code.width → place_fits q (flipping_rule limit q).pattern i ≡ true

-- the second pattern is the first with so many positions flipped one after another, none of them known
abbrev pub Reached : List State → ℕ → List ℕ → List ℕ → Type 0
Reached states zero a b = a ≡ b
Reached states (suc flips) a b =
    (i : ℕ) × (is_known (slice_index_or states i Raw) ≡ false) × Reached states flips (flipped a i) b

-- no more flips than the limit lead from the start to the answer
abbrev pub WithinLimit : ℕ → Type 0
WithinLimit limit =
    (q : Question)
    → (flips : ℕ) × (flips ≤ limit_of limit) × Reached q.states flips (map start_bit q.states) (flipping_rule limit q).pattern

-- place i has the most votes below n, and is the first that has them
pub record FirstOfMost (vote : ℕ → ℕ) (n i : ℕ) : Type 0 where
  pub below : i < n
  pub greatest : (k : ℕ) → k < n → vote k ≤ vote i
  pub first : (k : ℕ) → k < i → vote k < vote i

-- where there are votes, the leader is the first that has the most
abbrev pub LeaderIsFirst : Type 0
LeaderIsFirst = (vote : ℕ → ℕ) (n : ℕ) → (most vote n ≢ 0) → FirstOfMost vote n (leader vote n)
