use Rattle.std.proofs.Common.{sym}
use Rattle.frames.proofs.Faults.{syndrome_fault_behind, syndrome_read_behind}
use Rattle.frames.proofs.reading.read_syndrome.Goals as goal

pub returns-in-Some : goal.returns-in-Some
returns-in-Some c = λ n bytes h.
    sym (syndrome_fault_behind n c.args.m c.args.block c.in-Some.q c.args.side c.args.body.now bytes h c.in-Some.ensures)

pub returns : goal.returns
returns c = λ n bytes h.
    let run = c.in_default.ensures in
    sym (syndrome_read_behind n c.args.m c.args.block c.args.side c.args.body.now bytes _ h run.0 run.1 c.new-bits.ensures)
