use Rattle.std.proofs.Common.{ap}
use Rattle.protocol.specs.Reading.{disclosed_in}
use Rattle.worked_cases.specs.Block.{alice, bob}
use Rattle.worked_cases.proofs.Computed.{computed}
use Rattle.worked_cases.proofs.Premised.{premised}
use Rattle.worked_cases.proofs.whole_runs.disclosed.Goals as goal

pub returns : goal.returns
returns c =
    record {
      premises = rw computed.both_rounds premised;
      of_alice = ap (disclosed_in alice 1) computed.both_rounds;
      of_bob = ap (disclosed_in bob 1) computed.both_rounds;
    }
