use Rattle.std.proofs.Common.{length, get_or, arith}
use Rattle.codes.proofs.Degrees.{degrees_more, degrees_past, degree-bound}
use Rattle.codes.proofs.admission.count_narrowly.Goals as goal
use Rattle.codes.proofs.admission.count_narrowly.Goals.{then-i-degrees, else-i-degrees}

pub overflow_add-degrees : goal.overflow_add-degrees
overflow_add-degrees c =
    let k = c.loop-p.p-index in
    let p = get_or c.args.positions.now k 0 in
    omega (arith, c.loop-p.invariant p (omega (arith, c.if-i-degrees.true, c.loop-p.auto.degrees)), degree-bound c.args.positions.now k p c.requires.few)

pub loop-p-preserved : goal.loop-p-preserved
loop-p-preserved c =
    elim c.if-i-degrees.branch [
      | then-i-degrees w ↦
          rw w.degrees-is
          (degrees_more c.args.positions.now c.loop-p.degrees c.loop-p.p-index (length c.args.degrees.now) c.loop-p.auto.degrees
          c.loop-p-test.true (omega (arith, w.if-i-degrees.true, c.loop-p.auto.degrees)) c.loop-p.invariant)
      | else-i-degrees w ↦
          rw w.degrees-is
          (degrees_past c.args.positions.now c.loop-p.degrees c.loop-p.p-index (length c.args.degrees.now)
          c.loop-p-test.true (omega (arith, w.if-i-degrees.false, c.loop-p.auto.degrees)) c.loop-p.invariant)
    ]
