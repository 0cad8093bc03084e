use Rattle.std.proofs.Common.{◌∙◌}
use Rattle.std.proofs.lemmas.List.{take_all}
use Rattle.codes.proofs.Parities.{parity_here, parity_past}
use Rattle.codes.proofs.bits.parity.Goals as goal
use Rattle.codes.proofs.bits.parity.Goals.{then-i-bits, else-i-bits}

pub loop-p-preserved : goal.loop-p-preserved
loop-p-preserved g c =
    elim c.if-i-bits.branch [
      | then-i-bits w ↦
          w.sum-is
          ∙ parity_here g.B.TellsBit.told c.args.bits.now c.args.positions.now c.loop-p.p-index c.loop-p.sum
          c.loop-p-test.true c.loop-p.invariant w.index-bits-i.result w.bit.result w.if-i-bits.true
          w.index-bits-i.is w.bit.ensures.value
      | else-i-bits w ↦
          w.sum-is
          ∙ parity_past g.B.TellsBit.told c.args.bits.now c.args.positions.now c.loop-p.p-index c.loop-p.sum
          c.loop-p-test.true c.loop-p.invariant w.if-i-bits.false
    ]

pub returns : goal.returns
returns g c = let e = take_all c.loop-p.p-index c.args.positions.now c.loop-p-test.false in rw e at c.loop-p.invariant
