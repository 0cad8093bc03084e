use Rattle.std.proofs.Common.{length, arith}
use Rattle.runs.proofs.Packed.{filled_back}
use Rattle.runs.proofs.packing.unpack.Goals as goal

pub returns-clause-inverse : goal.returns-clause-inverse
returns-clause-inverse c =
    filled_back c.loop-i.bits c.args.bytes.now (length c.args.bits.now) c.loop-i.auto.bits (λ i l. c.loop-i.invariant i (omega arith))
