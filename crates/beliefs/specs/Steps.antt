-- Beliefs are counted in whole steps, an eighth of a nat each, so that whole numbers and floats mean the same.
use Rattle.std.specs.Prelude.{ℕ, suc, ◌≤◌, ◌%◌, ◌^◌, min, cond, eqb, ℤ, pos, negsuc, neg_ℤ, nat_abs}

-- as far as a 32-bit float tells every step apart
abbrev pub Small : ℤ → Type 0
Small z = nat_abs z ≤ 2 ^ 24

-- of the same sign, and no larger than k
abbrev pub held : ℕ → ℤ → ℤ
held k (pos n) = pos (min n k)
held k (negsuc n) = neg_ℤ (pos (min (suc n) k))

-- a magnitude, negative where the count is odd
abbrev pub signed : ℕ → ℕ → ℤ
signed count size = cond (eqb (count % 2) 1) (neg_ℤ (pos size)) (pos size)
