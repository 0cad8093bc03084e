use Rattle.std.proofs.Common.{arith}
use Rattle.frames.specs.Numbers.{side_number}
use Rattle.frames.proofs.Faults.{side-small}
use Rattle.frames.proofs.Written.{disclosure_written_back}
use Rattle.frames.proofs.writing.write_disclosure.Goals as goal

pub returns-clause-back : goal.returns-clause-back
returns-clause-back c = λ m.
    let number = c.number-number.ensures in
    let back = disclosure_written_back (side_number c.args.side) c.args.block c.number-number.result c.args.rounds.now c.args.key.now
    (side-small c.args.side) (omega arith) number.bound (omega arith)
    m c.bytes_for-values.result c.bytes_for.result c.count_in_round.result c.args.out.now c.write_head.new.out c.pack_map.new.out c.pack_values.new.out
    c.write_head.ensures c.bytes_for-values.ensures c.count_in_round.ensures c.bytes_for.ensures c.if-out-needed.false
    c.pack_map.ensures c.pack_values.ensures in
    rw number.value at back
