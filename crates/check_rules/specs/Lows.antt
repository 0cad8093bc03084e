-- What the offset rule keeps of the magnitudes: the smallest, and the smallest with one of the smallest left out.
use Rattle.std.specs.Prelude.{◌≡◌, ℕ, ◌-◌, ◌<◌, ◌≤◌, cond, List, [], ◌∷◌, map, length, ℤ, pos, neg_ℤ, nat_lt, slice_index}
use Rattle.std.specs.List.{AllByRecursion, remove}
use Rattle.check_rules.specs.Offset.{smallest}

pub record LowsOf (k : ℕ) (xs : List ℕ) (least next : ℕ) : Type 0 where
  pub least_is : least ≡ smallest k xs
  pub ordered : least ≤ next
  pub high : next ≤ k
  pub low : (i : ℕ) → i < length xs → least ≤ slice_index xs i
  pub without : (i : ℕ) → i < length xs → smallest k (remove xs i) ≡ cond (nat_lt least (slice_index xs i)) least next

-- two beliefs are the smallest magnitudes, in steps
abbrev pub LowBeliefs : {X : Type 0} → (X → Type 0) → (X → ℤ) → List ℕ → X → X → Type 0
LowBeliefs exact eighths xs least next =
    exact least × exact next
    × ((a : ℕ) × (b : ℕ) × (eighths least ≡ pos a) × (eighths next ≡ pos b) × LowsOf 800 xs a b)

-- what a check that kept a and b can send: to those not larger than a, to those that are, and each negative
abbrev pub replies_of : ℕ → ℕ → List ℤ
replies_of a b = pos (b - 4) ∷ pos (a - 4) ∷ neg_ℤ (pos (b - 4)) ∷ neg_ℤ (pos (a - 4)) ∷ []

abbrev pub LowReplies : {X : Type 0} → (X → Type 0) → (X → ℤ) → List ℕ → X → List X → Type 0
LowReplies exact eighths xs least sent =
    exact least × AllByRecursion exact sent
    × ((a : ℕ) × (b : ℕ) × (eighths least ≡ pos a) × (map eighths sent ≡ replies_of a b) × LowsOf 800 xs a b)
