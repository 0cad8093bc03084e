use Rattle.protocol.specs.Reading.{here, there}
use Rattle.worked_cases.proofs.Computed.{computed}
use Rattle.worked_cases.proofs.whole_runs.agreed_key.Goals as goal

pub returns : goal.returns
returns c =
    rw computed.both_rounds (record { of_alice = there (there (there here)); of_bob = there (there here) })
