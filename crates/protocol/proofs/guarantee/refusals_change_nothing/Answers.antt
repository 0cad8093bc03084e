use Rattle.protocol.proofs.Beside.{refusal_keeps, others_keep}
use Rattle.protocol.proofs.guarantee.refusals_change_nothing.Goals as goal

pub returns : goal.returns
returns c = record { kept = refusal_keeps; others = others_keep }
