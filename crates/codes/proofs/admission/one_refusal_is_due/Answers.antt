use Rattle.codes.proofs.Refusals.{one_refusal}
use Rattle.codes.proofs.admission.one_refusal_is_due.Goals as goal

pub returns : goal.returns
returns c = one_refusal
