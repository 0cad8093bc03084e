-- What a check rule means, in whole steps.
use Rattle.std.specs.Prelude.{◌≡◌, ℕ, ◌-◌, ◌<◌, ◌≤◌, min, max, List, length, ℤ, pos, slice_index}

pub record Meaning : Type 0 where
  -- the belief in a known bit: no belief is larger
  pub known : ℕ
  -- the belief in a raw bit, for each error class
  pub raw : ℕ → ℕ
  -- the magnitude that a check sends to a position, from those that its other positions gave it
  pub sends : List ℕ → ℕ

pub record SoundMeaning (rule : Meaning) : Type 0 where
  pub known_high : rule.known ≤ 4095
  pub raw_low : (q : ℕ) → 1 ≤ rule.known → 1 ≤ rule.raw q
  pub raw_high : (q : ℕ) → rule.raw q ≤ rule.known
  pub sends_high : (others : List ℕ) → rule.sends others ≤ rule.known

-- twelve raw beliefs, for the error classes 1 to 12; a class out of range is the nearer end
abbrev pub raw_at : List ℕ → ℕ → ℕ
raw_at beliefs q = slice_index beliefs (min (max q 1) 12 - 1)

-- a position's magnitude, in steps, is the one at place i
abbrev pub GaveAt : List ℕ → ℕ → ℤ → Type 0
GaveAt xs i size = (i < length xs) × (size ≡ pos (slice_index xs i))
