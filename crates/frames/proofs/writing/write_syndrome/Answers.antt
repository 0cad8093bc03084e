use Rattle.std.proofs.Common.{arith}
use Rattle.frames.specs.Numbers.{side_number}
use Rattle.frames.proofs.Faults.{side-small}
use Rattle.frames.proofs.Written.{syndrome_written_back}
use Rattle.frames.proofs.writing.write_syndrome.Goals as goal

pub returns-clause-back : goal.returns-clause-back
returns-clause-back c = λ n.
    syndrome_written_back (side_number c.args.side) c.args.block c.args.bits.now (side-small c.args.side) (omega arith)
    n c.bytes_for-needed.result c.args.out.now c.write_head.new.out c.pack.new.out
    c.write_head.ensures c.bytes_for-needed.ensures c.if-out-needed.false c.pack.ensures.packed
