-- What bytes are read as, where a matrix has n positions and m checks: a frame, or the first byte at fault from the left.
use Rattle.std.specs.Prelude.{◌≡◌, ℕ, zero, suc, ◌+◌, ◌-◌, ◌*◌, ◌%◌, ◌^◌, ◌≤◌, max, Bool, true, cond, ◌&&◌, ◌||◌, List, [], ◌∷◌, length, take, drop, Some, None, Ok, Err, sum, Option, Result, ◌==◌, nat_lt, slice_index, slice_index_or}
use Rattle.codes.specs.Limits.{Sizes}
use Rattle.runs.specs.Bits.{bytes_for, unpacked, unused}
use Rattle.frames.specs.Shape.{FrameShape, syndrome_frame, disclosure_frame}
use Rattle.frames.specs.declared.refusal.FrameRefusal.{FrameRefusal}
use Rattle.frames.specs.declared.refusal.FrameRefusal.TheVariants.{WrongSize, WrongByte}

-- what the head says; a byte that is missing counts as 0
abbrev pub kind_in : List ℕ → ℕ
kind_in bytes = slice_index bytes 0

abbrev pub side_in : List ℕ → ℕ
side_in bytes = slice_index bytes 1

abbrev pub block_in : List ℕ → ℕ
block_in bytes = slice_index bytes 2 * 2 ^ 24 + slice_index bytes 3 * 2 ^ 16 + slice_index bytes 4 * 2 ^ 8 + slice_index bytes 5

abbrev pub round_in : List ℕ → ℕ
round_in bytes = slice_index bytes 6 * 2 ^ 8 + slice_index bytes 7

-- a whole head that says this
pub record Head (kind side block round : ℕ) (bytes : List ℕ) : Type 0 where
  pub whole : 8 ≤ length bytes
  pub of_kind : kind_in bytes ≡ kind
  pub of_side : side_in bytes ≡ side
  pub of_block : block_in bytes ≡ block
  pub of_round : round_in bytes ≡ round

-- the same, and this is what stands behind it
pub record HeadThen (kind side block round : ℕ) (body bytes : List ℕ) : Type 0 where
  pub head : Head kind side block round bytes
  pub behind : drop 8 bytes ≡ body

-- the runs of a disclosure: the map, and behind it a bit for each of its ones
abbrev pub map_in : ℕ → List ℕ → List ℕ
map_in n bytes = unpacked n (drop 8 bytes)

abbrev pub value_bytes : ℕ → List ℕ → List ℕ
value_bytes n bytes = drop (bytes_for n) (drop 8 bytes)

abbrev pub frame_in : ℕ → ℕ → List ℕ → FrameShape
frame_in n m bytes =
    cond (kind_in bytes == 1)
    (syndrome_frame (side_in bytes) (block_in bytes) (unpacked m (drop 8 bytes)))
    (disclosure_frame (side_in bytes) (block_in bytes) (round_in bytes) (map_in n bytes) (unpacked (sum (map_in n bytes)) (value_bytes n bytes)))

-- how many bytes the frame takes
abbrev pub frame_length : ℕ → ℕ → List ℕ → ℕ
frame_length n m bytes = 8 + cond (kind_in bytes == 1) (bytes_for m) (bytes_for n + bytes_for (sum (map_in n bytes)))

-- what each byte of the head has to pass: the kind is known, the side is 0 or 1, and a round that is whole is one of the kind's
abbrev pub head_tests : List ℕ → List Bool
head_tests bytes =
    (kind_in bytes == 1 || kind_in bytes == 2) ∷ nat_lt (side_in bytes) 2
    ∷ true ∷ true ∷ true ∷ true
    ∷ (nat_lt (length bytes) 8 || cond (kind_in bytes == 1) (round_in bytes == 0) (nat_lt 0 (round_in bytes))) ∷ true ∷ []

-- byte q of a run of w bits leaves its unused bits 0
abbrev pub clear_test : ℕ → List ℕ → ℕ → Bool
clear_test w run q = slice_index run q % 2 ^ unused w q == 0

-- byte q behind the head
abbrev pub body_test : ℕ → ℕ → List ℕ → ℕ → Bool
body_test n m bytes q =
    cond (kind_in bytes == 1) (clear_test m (drop 8 bytes) q)
    (cond (nat_lt q (bytes_for n)) (clear_test n (drop 8 bytes) q) (clear_test (sum (map_in n bytes)) (value_bytes n bytes) (q - bytes_for n)))

-- byte k is as a frame has it: not missing, not extra, and what it says is right
unfoldable pub right_byte : ℕ → ℕ → List ℕ → ℕ → Bool
right_byte n m bytes k =
    nat_lt k (length bytes) && (nat_lt k (frame_length n m bytes) && cond (nat_lt k 8) (slice_index_or (head_tests bytes) k true) (body_test n m bytes (k - 8)))

-- the first place below a number that fails a test
abbrev pub sooner : Option ℕ → Option ℕ → Option ℕ
sooner None later = later
sooner (Some i) later = Some i

abbrev pub first_wrong : (ℕ → Bool) → ℕ → Option ℕ
first_wrong test zero = None
first_wrong test (suc n) = sooner (first_wrong test n) (cond (test n) None (Some n))

abbrev pub outcome : FrameShape → Option ℕ → Result FrameShape FrameRefusal
outcome shape None = Ok shape
outcome shape (Some i) = Err (WrongByte i)

unfoldable pub read_shape : ℕ → ℕ → List ℕ → Result FrameShape FrameRefusal
read_shape n m bytes = outcome (frame_in n m bytes) (first_wrong (right_byte n m bytes) (max (length bytes) (frame_length n m bytes)))

-- the first len of the bytes are read as this frame of a matrix with n positions, whatever its checks are
abbrev pub ReadAtWidth : ℕ → FrameShape → List ℕ → ℕ → Type 0
ReadAtWidth n shape bytes len = (m : ℕ) → read_shape n m (take len bytes) ≡ Ok shape

-- the same of a matrix with m checks, whatever its positions are
abbrev pub ReadAtChecks : ℕ → FrameShape → List ℕ → ℕ → Type 0
ReadAtChecks m shape bytes len = (n : ℕ) → read_shape n m (take len bytes) ≡ Ok shape

-- sizes that no matrix has are refused before the bytes are looked at
abbrev pub Reads : ℕ → ℕ → List ℕ → Result FrameShape FrameRefusal → Type 0
Reads n m bytes answer = (Sizes n m → answer ≡ read_shape n m bytes) × ((Sizes n m → ⊥) → answer ≡ Err WrongSize)
