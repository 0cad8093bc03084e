use Rattle.std.proofs.Common.{refl}
use Rattle.protocol.specs.Reading.{here}
use Rattle.worked_cases.proofs.Computed.{computed}
use Rattle.worked_cases.proofs.whole_runs.bob_ends.Goals as goal

pub returns : goal.returns
returns c = rw (c.settled.ensures, computed.both_rounds) (record { round = refl; closed = here })
