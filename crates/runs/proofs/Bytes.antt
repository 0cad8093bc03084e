-- One byte of a packed run, its eight bits taken one by one.
use Rattle.std.proofs.Common.{◌≡◌, ℕ, zero, suc, ◌+◌, ◌-◌, ◌*◌, ◌/◌, ◌%◌, ◌^◌, ◌<◌, ◌⊎◌, List, get_or, ⊎_elim, add-zero, mul-pos, arith}
use Rattle.std.proofs.lemmas.Nat.{mod-pow-add, pow_pos}
use Rattle.std.proofs.lemmas.Bool.{cases_lt}
use Rattle.runs.specs.Bits.{bit_at}
use Rattle.std.proofs.lemmas.Grind.{common_steps}

-- the byte of the bits f (8 q) to f (8 q + 7)
abbrev pub byte_by : (ℕ → ℕ) → ℕ → ℕ
byte_by f q =
    128 * f (8 * q) + 64 * f (8 * q + 1) + 32 * f (8 * q + 2) + 16 * f (8 * q + 3) + 8 * f (8 * q + 4)
    + 4 * f (8 * q + 5) + 2 * f (8 * q + 6) + f (8 * q + 7)

-- a number below 8 is one of eight
pub octal : (P : ℕ → Type 0) → P 0 → P 1 → P 2 → P 3 → P 4 → P 5 → P 6 → P 7 → (r : ℕ) → r < 8 → P r
octal P a b c d e f g h zero l = a
octal P a b c d e f g h (suc zero) l = b
octal P a b c d e f g h (suc (suc zero)) l = c
octal P a b c d e f g h (suc (suc (suc zero))) l = d
octal P a b c d e f g h (suc (suc (suc (suc zero)))) l = e
octal P a b c d e f g h (suc (suc (suc (suc (suc zero))))) l = f
octal P a b c d e f g h (suc (suc (suc (suc (suc (suc zero)))))) l = g
octal P a b c d e f g h (suc (suc (suc (suc (suc (suc (suc zero))))))) l = h
octal P a b c d e f g h (suc (suc (suc (suc (suc (suc (suc (suc r)))))))) l = absurd (omega arith)

pub byte_small : (f : ℕ → ℕ) → ((i : ℕ) → f i < 2) → (q : ℕ) → byte_by f q < 256
byte_small f t q = grind (arith, common_steps)

-- each bit is read back out of its byte
pub bit_of_byte : (f : ℕ → ℕ) → ((i : ℕ) → f i < 2) → (q r : ℕ) → r < 8 → byte_by f q / 2 ^ (7 - r) % 2 ≡ f (8 * q + r)
bit_of_byte f t q =
    let t0 = t (8 * q) in let t1 = t (8 * q + 1) in let t2 = t (8 * q + 2) in let t3 = t (8 * q + 3) in
    let t4 = t (8 * q + 4) in let t5 = t (8 * q + 5) in let t6 = t (8 * q + 6) in let t7 = t (8 * q + 7) in
    octal (λ r. byte_by f q / 2 ^ (7 - r) % 2 ≡ f (8 * q + r))
    (simp add-zero (omega arith)) (omega arith) (omega arith) (omega arith)
    (omega arith) (omega arith) (omega arith) (omega arith)

-- a byte is made of its bits
pub byte_of_bits : (f : ℕ → ℕ) (q b : ℕ) → b < 256 → ((r : ℕ) → r < 8 → f (8 * q + r) ≡ b / 2 ^ (7 - r) % 2) → byte_by f q ≡ b
byte_of_bits f q b small t = grind (arith, common_steps)

-- f and g agree but at L, where g has the bit b and f none
abbrev pub Differ : (ℕ → ℕ) → (ℕ → ℕ) → ℕ → ℕ → ℕ → Type 0
Differ f g L b i = ((i ≡ L) × (f i ≡ 0) × (g i ≡ b)) ⊎ ((i ≡ L → ⊥) × (g i ≡ f i))

-- then L's byte grows by the bit's weight
pub byte_put : (f g : ℕ → ℕ) (L b : ℕ) → ((i : ℕ) → Differ f g L b i) → byte_by g (L / 8) ≡ byte_by f (L / 8) + b * 2 ^ (7 - L % 8)
byte_put f g L b t = go (L / 8) (L % 8) (omega arith) (omega arith)
  where
    go : (q r : ℕ) → r < 8 → L ≡ 8 * q + r → byte_by g q ≡ byte_by f q + b * 2 ^ (7 - r)
    go q = grind (arith, common_steps, octal)

-- and every other byte stays
pub byte_kept : (f g : ℕ → ℕ) (L b : ℕ) → ((i : ℕ) → Differ f g L b i) → (q : ℕ) → (q ≡ L / 8 → ⊥) → byte_by g q ≡ byte_by f q
byte_kept f g L b t q ne = grind (arith, common_steps)

-- the bits of byte q
pub bit_at_split : (bytes : List ℕ) (q r : ℕ) → r < 8 → bit_at bytes (8 * q + r) ≡ get_or bytes q 0 / 2 ^ (7 - r) % 2
bit_at_split bytes q r l = grind (arith, common_steps)

-- where the low s bits are 0, each of them is
pub low_bit : (b s t : ℕ) → t < s → b % 2 ^ s ≡ 0 → b / 2 ^ t % 2 ≡ 0
low_bit b s t l z =
    let whole : (s - (1 + t)) + (1 + t) ≡ s = omega arith in
    let above : b % 2 ^ s ≡ b / 2 ^ (1 + t) % 2 ^ (s - (1 + t)) * 2 ^ (1 + t) + b % 2 ^ (1 + t) =
    rw whole at (mod-pow-add b (s - (1 + t)) (1 + t)) in
    let two : b % 2 ^ (1 + t) ≡ 0 = omega arith in
    let here : b % 2 ^ (1 + t) ≡ b / 2 ^ t % 2 * 2 ^ t + b % 2 ^ t = mod-pow-add b 1 t in
    let none : b / 2 ^ t % 2 * 2 ^ t ≡ 0 = omega arith in
    ⊎_elim (λ p. absurd (omega (arith, mul-pos p (pow_pos t)))) (λ p. omega arith) (cases_lt 0 (b / 2 ^ t % 2))

-- where f has no bit from w on, the low bits of w's byte are 0
pub byte_clear : (f : ℕ → ℕ) (w : ℕ) → ((i : ℕ) → (i < w) ⊎ (f i ≡ 0)) → (q s : ℕ) → s < 8 → 8 * (q + 1) - w ≡ s → byte_by f q % 2 ^ s ≡ 0
byte_clear f w t q =
    let t0 = t (8 * q) in let t1 = t (8 * q + 1) in let t2 = t (8 * q + 2) in let t3 = t (8 * q + 3) in
    let t4 = t (8 * q + 4) in let t5 = t (8 * q + 5) in let t6 = t (8 * q + 6) in let t7 = t (8 * q + 7) in
    octal (λ s. 8 * (q + 1) - w ≡ s → byte_by f q % 2 ^ s ≡ 0)
    (λ e. omega arith) (λ e. omega arith) (λ e. omega arith) (λ e. omega arith)
    (λ e. omega arith) (λ e. omega arith) (λ e. omega arith) (λ e. omega arith)
