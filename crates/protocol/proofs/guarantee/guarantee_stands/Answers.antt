use Rattle.protocol.proofs.Proved.{guaranteed}
use Rattle.protocol.proofs.guarantee.guarantee_stands.Goals as goal

pub returns : goal.returns
returns c = guaranteed
