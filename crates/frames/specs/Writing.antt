-- What a writer leaves in a buffer and answers, and what an end discloses in a round.
use Rattle.std.specs.Prelude.{ℕ, zero, suc, Bool, cond, List, [], ◌∷◌, ◌++◌, map, length, drop, Ok, Err, Result, ◌==◌, nat_lt, slice_index}
use Rattle.std.specs.List.{range_with_len}
use Rattle.runs.specs.Bits.{bit_of}
use Rattle.frames.specs.Shape.{FrameShape, syndrome_frame, disclosure_frame}
use Rattle.frames.specs.declared.refusal.FrameRefusal.{FrameRefusal}
use Rattle.frames.specs.declared.refusal.FrameRefusal.TheVariants.{ShortBuffer}

-- bytes come first and the rest of the buffer stays; a buffer that is too short stays whole
abbrev pub laid : List ℕ → List ℕ → List ℕ
laid bytes buffer = cond (nat_lt (length buffer) (length bytes)) buffer (bytes ++ drop (length bytes) buffer)

-- how many bytes were written, or are needed
abbrev pub room_for : List ℕ → List ℕ → Result ℕ FrameRefusal
room_for bytes buffer = cond (nat_lt (length buffer) (length bytes)) (Err (ShortBuffer (length bytes))) (Ok (length bytes))

-- an end's syndrome, one bit to a byte
abbrev pub syndrome_of : ℕ → ℕ → List ℕ → FrameShape
syndrome_of side block bits = syndrome_frame side block (map bit_of bits)

-- the map of the positions below n that pass a test
unfoldable pub map_of : (ℕ → Bool) → ℕ → List ℕ
map_of test n = map (λ i. cond (test i) 1 0) (range_with_len 0 n)

-- what f gives at these positions, in rising order
unfoldable pub gathered : (ℕ → Bool) → (ℕ → ℕ) → ℕ → List ℕ
gathered test f zero = []
gathered test f (suc i) = gathered test f i ++ cond (test i) (f i ∷ []) []

-- position i is disclosed in this round, where rounds has for each position the round in which it is
abbrev pub in_round : ℕ → List ℕ → ℕ → Bool
in_round round rounds i = slice_index rounds i == round

-- a key's bit at position i; past its end it is 0
abbrev pub key_bit : List ℕ → ℕ → ℕ
key_bit key i = bit_of (slice_index key i)

-- what an end with this key discloses in the round
abbrev pub disclosure_of : ℕ → ℕ → ℕ → List ℕ → List ℕ → FrameShape
disclosure_of side block round rounds key =
    disclosure_frame side block round (map_of (in_round round rounds) (length rounds))
    (gathered (in_round round rounds) (key_bit key) (length rounds))
