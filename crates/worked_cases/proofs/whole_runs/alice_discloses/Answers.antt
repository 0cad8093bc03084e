use Rattle.protocol.specs.Reading.{here, there}
use Rattle.worked_cases.proofs.Computed.{computed}
use Rattle.worked_cases.proofs.whole_runs.alice_discloses.Goals as goal

pub returns : goal.returns
returns c = rw computed.both_rounds (there (there (there (there (there (there (there (there (there here)))))))))
