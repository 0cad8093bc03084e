use Rattle.std.proofs.Common.{ℕ, List, sym, subst}
use Rattle.codes.specs.Places.{FirstFault}
use Rattle.runs.specs.Bits.{bytes_for, SoundByte}
use Rattle.runs.specs.Of.{bits_of}
use Rattle.frames.specs.Numbers.{side_number}
use Rattle.frames.proofs.Faults.{map_fault, value_fault_cut, disclosure_read_cut, side-small}
use Rattle.frames.proofs.reading.read_disclosure.Goals as goal

pub returns-in-Some : goal.returns-in-Some
returns-in-Some c = λ m bytes t.
    let h = t.head in
    let e = t.behind in
    let fault = subst (λ (b : List ℕ). FirstFault (SoundByte c.args.n b) (bytes_for c.args.n) c.in-Some.q) (sym e) c.in-Some.ensures in
    sym (map_fault c.args.n m (side_number c.args.side) c.args.block c.args.round bytes h (side-small c.args.side) c.requires c.in-Some.q fault)

pub returns-in-Some-last_run_fault : goal.returns-in-Some-last_run_fault
returns-in-Some-last_run_fault c = λ m bytes t.
    let h = t.head in
    let e = t.behind in
    sym
    (value_fault_cut c.args.n m (side_number c.args.side) c.args.block c.args.round bytes c.args.body.now
    c.split_at.result.0.now c.split_at.result.1.now (bits_of c.new-map.result) c.bytes_for-map_bytes.result c.ones-ones.result
    h (side-small c.args.side) c.requires e c.bytes_for-map_bytes.ensures c.split_at.ensures.front c.split_at.ensures.back
    c.new-map.ensures c.ones-ones.ensures c.in-Some-last_run_fault.q c.in_default.ensures c.in-Some-last_run_fault.ensures)

pub returns : goal.returns
returns c = λ m bytes t.
    let h = t.head in
    let e = t.behind in
    let run = c.in_default-last_run_fault.ensures in
    let read = disclosure_read_cut c.args.n m (side_number c.args.side) c.args.block c.args.round bytes c.args.body.now
    c.split_at.result.0.now c.split_at.result.1.now (bits_of c.new-map.result) c.bytes_for-map_bytes.result c.ones-ones.result
    h (side-small c.args.side) c.requires e c.bytes_for-map_bytes.ensures c.split_at.ensures.front c.split_at.ensures.back
    c.new-map.ensures c.ones-ones.ensures c.in_default.ensures run.0 run.1 in
    let values = c.new-values.ensures in
    cc
