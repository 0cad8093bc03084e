-- What a frame in the code says.
use Rattle.std.specs.Prelude.{Ok, Err, Result}
use Rattle.runs.specs.Of.{bits_of}
use Rattle.frames.specs.Numbers.{side_number}
use Rattle.frames.specs.Shape.{FrameShape, syndrome_frame, disclosure_frame}
use Rattle.frames.specs.declared.refusal.FrameRefusal.{FrameRefusal}
use Rattle.frames.specs.declared.frame.Frame.{Frame}
use Rattle.frames.specs.declared.frame.Frame.TheVariants.{Syndrome, Disclosure}

abbrev pub shape_of : Frame → FrameShape
shape_of (Syndrome side block bits) = syndrome_frame (side_number side) block (bits_of bits)
shape_of (Disclosure side block round map values) = disclosure_frame (side_number side) block round (bits_of map) (bits_of values)

abbrev pub reading_of : Result Frame FrameRefusal → Result FrameShape FrameRefusal
reading_of (Ok frame) = Ok (shape_of frame)
reading_of (Err refusal) = Err refusal
