-- Beliefs that stand for whole steps, none larger than k.
use Rattle.std.specs.Prelude.{ℕ, ◌*◌, ◌≤◌, List, ℤ, unsigned_abs}
use Rattle.std.specs.List.{AllByRecursion}
use Rattle.check_rules.specs.Meaning.{Meaning}

abbrev pub Fine : {X : Type 0} → (X → Type 0) → (X → ℤ) → ℕ → X → Type 0
Fine exact eighths k x = exact x × (unsigned_abs (eighths x) ≤ k)

abbrev pub Within : {X : Type 0} → (X → Type 0) → (X → ℤ) → ℕ → List X → Type 0
Within exact eighths k xs = AllByRecursion (Fine exact eighths k) xs

-- what is sent, and every prior, is no larger than the known belief
abbrev pub WithinKnown : {X : Type 0} → (X → Type 0) → (X → ℤ) → Meaning → List X → Type 0
WithinKnown exact eighths rule xs = Within exact eighths rule.known xs

-- a total is a prior and what at most 16 checks send
abbrev pub WithinTotals : {X : Type 0} → (X → Type 0) → (X → ℤ) → Meaning → List X → Type 0
WithinTotals exact eighths rule xs = Within exact eighths (17 * rule.known) xs
