use Rattle.worked_cases.proofs.Computed.{computed}
use Rattle.worked_cases.proofs.naming.step_one_names.Goals as goal

pub returns : goal.returns
returns c = computed.step_one
