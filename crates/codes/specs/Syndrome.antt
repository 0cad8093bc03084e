-- Parities and syndromes. Bits are the numbers 0 and 1, added modulo 2.
use Rattle.std.specs.Prelude.{◌≡◌, ℕ, ◌+◌, ◌%◌, ◌<◌, ◌≤◌, max, List, ◌++◌, map, length, drop, Ok, Err, sum_by, Result, slice_index}
use Rattle.std.specs.List.{range_with_len}
use Rattle.codes.specs.Places.{FirstFault}
use Rattle.codes.specs.Code.{Code, check, checks}
use Rattle.codes.specs.declared.refusal.SyndromeRefusal.{SyndromeRefusal}
use Rattle.codes.specs.declared.refusal.SyndromeRefusal.TheVariants.{WrongKey, ShortBuffer}

-- the sum modulo 2 of the bits at the positions; past the end there is no bit to add
abbrev pub parity : List ℕ → List ℕ → ℕ
parity bits positions = sum_by (λ p. slice_index bits p) positions % 2

-- one parity a check
abbrev pub syndrome : Code → List ℕ → List ℕ
syndrome code key = map (λ k. parity key (check code k)) (range_with_len 0 (checks code))

-- the sum of two words, bit by bit modulo 2, as long as the first
abbrev pub added : List ℕ → List ℕ → List ℕ
added a b = map (λ i. (slice_index a i + slice_index b i) % 2) (range_with_len 0 (length a))

-- n bits
pub record IsKey (n : ℕ) (key : List ℕ) : Type 0 where
  pub long : length key ≡ n
  pub bits : (i : ℕ) → i < n → slice_index key i < 2

-- place i of a key of n bits: it is there, it is not extra, and it is a bit
abbrev pub KeyBit : ℕ → List ℕ → ℕ → Type 0
KeyBit n key i = (i < n) × (i < length key) × (slice_index key i < 2)

abbrev pub WrongKeyAt : ℕ → List ℕ → ℕ → Type 0
WrongKeyAt n key i = FirstFault (KeyBit n key) (max n (length key)) i

-- the refusal that is due for a key of n bits and m parities in a buffer of this length
abbrev pub SyndromeRefused : ℕ → ℕ → List ℕ → ℕ → SyndromeRefusal → Type 0
SyndromeRefused n m key room (WrongKey i) = WrongKeyAt n key i
SyndromeRefused n m key room (ShortBuffer needed) = IsKey n key × (room < m) × (needed ≡ m)

-- what asking for a syndrome does: the buffer's front holds it and the rest what it held, or the refusal that is due and no change
abbrev pub SyndromeGiven : {D : Type 0} → Code → List ℕ → List ℕ → List ℕ → Result D SyndromeRefusal → Type 0
SyndromeGiven code key out out' (Ok done) =
    IsKey code.width key × (checks code ≤ length out) × (out' ≡ syndrome code key ++ drop (checks code) out)
SyndromeGiven code key out out' (Err e) =
    SyndromeRefused code.width (checks code) key (length out) e × (out' ≡ out)
