-- The bit that a value tells.
use Rattle.std.specs.Prelude.{ℕ, ◌%◌, ℤ, pos, negsuc}

-- a key byte holds its bit as 0 or 1
abbrev pub byte_bit : ℕ → ℕ
byte_bit b = b % 2

-- a belief that is negative tells 1
abbrev pub sign_bit : ℤ → ℕ
sign_bit (pos n) = 0
sign_bit (negsuc n) = 1
