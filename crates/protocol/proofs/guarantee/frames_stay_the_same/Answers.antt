use Rattle.protocol.proofs.Beside.{same-frames}
use Rattle.protocol.proofs.guarantee.frames_stay_the_same.Goals as goal

pub returns : goal.returns
returns c = same-frames
