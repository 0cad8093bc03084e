use Rattle.std.proofs.Common.{sym, ap}
use Rattle.protocol.specs.Of.{turning_of}
use Rattle.worked_cases.proofs.Computed.{computed}
use Rattle.worked_cases.proofs.naming.first_turn.Goals as goal

pub returns : goal.returns
returns c = sym (ap turning_of computed.step_one)
