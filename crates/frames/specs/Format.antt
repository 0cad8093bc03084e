-- The bytes that a frame is written as.
use Rattle.std.specs.Prelude.{ℕ, ◌/◌, ◌%◌, ◌^◌, List, [], ◌∷◌, ◌++◌}
use Rattle.runs.specs.Bits.{packed}
use Rattle.frames.specs.Shape.{FrameShape, syndrome_frame, disclosure_frame}

-- kind, side, block and round: 1, 1, 4 and 2 bytes, highest byte first
abbrev pub head_bytes : ℕ → ℕ → ℕ → ℕ → List ℕ
head_bytes kind side block round =
    kind ∷ side
    ∷ block / 2 ^ 24 % 256 ∷ block / 2 ^ 16 % 256 ∷ block / 2 ^ 8 % 256 ∷ block % 256
    ∷ round / 2 ^ 8 % 256 ∷ round % 256 ∷ []

unfoldable pub frame_bytes : FrameShape → List ℕ
frame_bytes (syndrome_frame side block bits) = head_bytes 1 side block 0 ++ packed bits
frame_bytes (disclosure_frame side block round named values) = head_bytes 2 side block round ++ (packed named ++ packed values)
