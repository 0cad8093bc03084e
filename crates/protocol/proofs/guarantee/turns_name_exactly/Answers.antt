use Rattle.protocol.proofs.Beside.{names_exactly}
use Rattle.protocol.proofs.guarantee.turns_name_exactly.Goals as goal

pub returns : goal.returns
returns c = names_exactly
