use Rattle.std.proofs.Common.{length, arith}
use Rattle.codes.proofs.Degrees.{degrees_more, degrees_past}
use Rattle.codes.proofs.admission.count_degrees.Goals as goal
use Rattle.codes.proofs.admission.count_degrees.Goals.{then-i-degrees, else-i-degrees}

pub loop-p-preserved : goal.loop-p-preserved
loop-p-preserved c =
    elim c.if-i-degrees.branch [
      | then-i-degrees w ↦
          rw w.degrees-is
          (degrees_more c.args.positions.now c.loop-p.degrees c.loop-p.p-index (length c.fill.new.self) c.loop-p.auto.degrees
          c.loop-p-test.true (omega (arith, w.if-i-degrees.true, c.loop-p.auto.degrees)) c.loop-p.invariant)
      | else-i-degrees w ↦
          rw w.degrees-is
          (degrees_past c.args.positions.now c.loop-p.degrees c.loop-p.p-index (length c.fill.new.self)
          c.loop-p-test.true (omega (arith, w.if-i-degrees.false, c.loop-p.auto.degrees)) c.loop-p.invariant)
    ]
