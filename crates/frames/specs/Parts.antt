-- The runs of a frame; a run that its kind does not have is empty.
use Rattle.std.specs.Prelude.{ℕ, List, []}
use Rattle.frames.specs.Shape.{FrameShape, syndrome_frame, disclosure_frame}

abbrev pub syndrome_run : FrameShape → List ℕ
syndrome_run (syndrome_frame side block bits) = bits
syndrome_run (disclosure_frame side block round named values) = []

abbrev pub map_run : FrameShape → List ℕ
map_run (syndrome_frame side block bits) = []
map_run (disclosure_frame side block round named values) = named

abbrev pub value_run : FrameShape → List ℕ
value_run (syndrome_frame side block bits) = []
value_run (disclosure_frame side block round named values) = values
