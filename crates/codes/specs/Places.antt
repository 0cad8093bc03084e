-- What holds at every place below a number, and the first place at which it does not.
use Rattle.std.specs.Prelude.{ℕ, ◌<◌}

abbrev pub AllBelow : (ℕ → Type 0) → ℕ → Type 0
AllBelow P n = (k : ℕ) → k < n → P k

-- i is below n and at fault, and no place before it is
abbrev pub FirstFault : (ℕ → Type 0) → ℕ → ℕ → Type 0
FirstFault P n i = (i < n) × (P i → ⊥) × AllBelow P i
