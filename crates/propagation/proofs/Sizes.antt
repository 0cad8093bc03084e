-- Magnitudes of differences and of held beliefs.
use Rattle.std.proofs.Common.{ℕ, suc, ◌+◌, ◌≤◌, min, ℤ, pos, negsuc, ◌-ℤ◌, nat_abs, arith}
use Rattle.std.proofs.lemmas.Int.{ints}
use Rattle.beliefs.specs.Steps.{held}
use Rattle.propagation.specs.Bounds.{nat_abs_neg}

pub nat_abs_sub : (a b : ℤ) → nat_abs (a -ℤ b) ≤ nat_abs a + nat_abs b
nat_abs_sub a b = grind (arith, ints)

pub nat_abs_held : (k : ℕ) (a : ℤ) → nat_abs (held k a) ≤ k
nat_abs_held k (pos n) = omega arith
nat_abs_held k (negsuc n) = omega (arith, nat_abs_neg (pos (min (suc n) k)))
