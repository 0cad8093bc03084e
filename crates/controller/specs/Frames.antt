-- What reading a frame replies: what the bytes are read as, in plain numbers.
use Rattle.std.specs.Prelude.{◌≡◌, ℕ, ◌+◌, List, length, Ok, Err, Result}
use Rattle.runs.specs.Bits.{bytes_for}
use Rattle.frames.specs.Numbers.{frame_told}
use Rattle.frames.specs.Shape.{FrameShape, syndrome_frame, disclosure_frame}
use Rattle.frames.specs.Reading.{Reads}
use Rattle.frames.specs.declared.refusal.FrameRefusal.{FrameRefusal}
use Rattle.controller.specs.declared.reply.FrameReply.{FrameReply}

abbrev pub zeros : FrameReply
zeros =
    record {
      number = 0;
      place = 0;
      kind = 0;
      side = 0;
      round = 0;
      block = 0;
      first_at = 0;
      first_bits = 0;
      second_at = 0;
      second_bits = 0;
    }

-- a frame's head and where its runs lie
abbrev pub shown : FrameShape → FrameReply
shown (syndrome_frame side block bits) =
    record zeros { kind = 1; side = side; block = block; first_at = 8; first_bits = length bits }
shown (disclosure_frame side block round named values) =
    record zeros {
      kind = 2;
      side = side;
      round = round;
      block = block;
      first_at = 8;
      first_bits = length named;
      second_at = 8 + bytes_for (length named);
      second_bits = length values;
    }

abbrev pub refused : FrameRefusal → FrameReply
refused e = record zeros { number = (frame_told e).number; place = (frame_told e).place }

abbrev pub frame_reply : Result FrameShape FrameRefusal → FrameReply
frame_reply (Ok shape) = shown shape
frame_reply (Err e) = refused e

abbrev pub FrameReplies : ℕ → ℕ → List ℕ → FrameReply → Type 0
FrameReplies n m bytes r = (answer : Result FrameShape FrameRefusal) × Reads n m bytes answer × (r ≡ frame_reply answer)
