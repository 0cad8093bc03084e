-- Runs of bits, and the bytes that they are packed into, from the highest bit on.
use Rattle.std.specs.Prelude.{◌≡◌, ℕ, ◌+◌, ◌-◌, ◌*◌, ◌/◌, ◌%◌, ◌^◌, ◌<◌, min, List, map, length, slice_index}
use Rattle.std.specs.List.{range_with_len}
use Rattle.codes.specs.Places.{AllBelow}

-- any byte but 0 stands for the bit 1
abbrev pub bit_of : ℕ → ℕ
bit_of b = min b 1

-- a list of bits
abbrev pub IsBits : List ℕ → Type 0
IsBits bits = (i : ℕ) → slice_index bits i < 2

-- how many bytes w bits take
abbrev pub bytes_for : ℕ → ℕ
bytes_for w = (w + 7) / 8

-- bit i of packed bytes; past their end it is 0
abbrev pub bit_at : List ℕ → ℕ → ℕ
bit_at bytes i = slice_index bytes (i / 8) / 2 ^ (7 - i % 8) % 2

-- the first w bits of packed bytes
unfoldable pub unpacked : ℕ → List ℕ → List ℕ
unpacked w bytes = map (bit_at bytes) (range_with_len 0 w)

-- byte q of a packed run; past its end it is 0
abbrev pub packed_byte : List ℕ → ℕ → ℕ
packed_byte bits q =
    128 * slice_index bits (8 * q) + 64 * slice_index bits (8 * q + 1) + 32 * slice_index bits (8 * q + 2)
    + 16 * slice_index bits (8 * q + 3) + 8 * slice_index bits (8 * q + 4) + 4 * slice_index bits (8 * q + 5)
    + 2 * slice_index bits (8 * q + 6) + slice_index bits (8 * q + 7)

-- the first k bytes of a packed run
unfoldable pub packed_to : ℕ → List ℕ → List ℕ
packed_to k bits = map (packed_byte bits) (range_with_len 0 k)

-- bytes that hold this run, and 0 behind it
abbrev pub IsPacked : List ℕ → List ℕ → Type 0
IsPacked bytes bits = bytes ≡ packed_to (length bytes) bits

-- a run of bits packed into as many bytes as it takes
abbrev pub packed : List ℕ → List ℕ
packed bits = packed_to (bytes_for (length bits)) bits

-- how many of the low bits of byte q a run of w bits leaves unused
abbrev pub unused : ℕ → ℕ → ℕ
unused w q = 8 * (q + 1) - w

-- byte q where bytes are to begin with a run of w bits: it is there, and its unused bits are 0
abbrev pub SoundByte : ℕ → List ℕ → ℕ → Type 0
SoundByte w bytes q = (q < length bytes) × (slice_index bytes q % 2 ^ unused w q ≡ 0)

-- bytes that begin with a run of w bits
abbrev pub BeginsSound : ℕ → List ℕ → Type 0
BeginsSound w bytes = AllBelow (SoundByte w bytes) (bytes_for w)

-- bytes that are a run of w bits and nothing more
abbrev pub WholeSound : ℕ → List ℕ → Type 0
WholeSound w bytes = (length bytes ≡ bytes_for w) × BeginsSound w bytes

-- byte q where bytes are to be a run of w bits and nothing more
abbrev pub SoundLast : ℕ → List ℕ → ℕ → Type 0
SoundLast w bytes q = (q < bytes_for w) × SoundByte w bytes q

-- numbers that are bytes
abbrev pub IsBytes : List ℕ → Type 0
IsBytes bytes = (q : ℕ) → slice_index bytes q < 256

-- the packed bytes of some run of w bits, and no more
pub record IsRun (w : ℕ) (bytes : List ℕ) : Type 0 where
  pub small : IsBytes bytes
  pub long : length bytes ≡ bytes_for w
  pub sound : BeginsSound w bytes
