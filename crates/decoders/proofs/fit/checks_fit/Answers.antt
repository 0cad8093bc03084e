use Rattle.std.proofs.Common.{◌<◌, map, length, sym, ◌∙◌, arith}
use Rattle.std.proofs.lemmas.List.{length-map}
use Rattle.codes.specs.Of.{code_of}
use Rattle.codes.proofs.Parities.{parity_here, parity_past}
use Rattle.decoders.specs.Question.{bit_of}
use Rattle.decoders.specs.Fit.{meets}
use Rattle.decoders.proofs.Fits.{below_more, below_fails, gone_through, meets_here, fails_here}
use Rattle.decoders.proofs.fit.checks_fit.Goals as goal
use Rattle.decoders.proofs.fit.checks_fit.Goals.{then-i-bits, else-i-bits}

pub loop-j-preserved : goal.loop-j-preserved
loop-j-preserved g c =
    let told = g.B.TellsBit.told in
    let check = c.check-check.result.now in
    let j = c.loop-j.j in
    let near : j < length check = omega (arith, c.if-j-check.false, c.loop-j.invariant.1) in (
      c.loop-j.invariant.0,
      omega (arith, near),
      elim c.if-i-bits.branch [
        | then-i-bits w ↦
            w.sum-is
            ∙ parity_here told c.args.bits.now check j c.loop-j.sum near c.loop-j.invariant.2 w.index-bits-i.result
            w.bit.result w.if-i-bits.true w.index-bits-i.is w.bit.ensures.value
        | else-i-bits w ↦
            w.sum-is ∙ parity_past told c.args.bits.now check j c.loop-j.sum near c.loop-j.invariant.2 w.if-i-bits.false
      ],
    )

pub checks-preserved : goal.checks-preserved
checks-preserved g c =
    let code = code_of c.args.matrix.now in
    let ds = c.args.difference.now in
    let told = map g.B.TellsBit.told c.args.bits.now in
    let whole =
    gone_through told code.positions code.ends c.check-check.result.now c.checks.k c.loop-j.j c.loop-j.sum
    c.check-check.ensures.value c.if-j-check.true c.loop-j.invariant.2 in
    let here = meets_here code.positions code.ends ds told c.checks.k c.loop-j.sum c.checks-test.true whole (c.if-sum-min.false ∙ c.min.ensures) in (
      c.loop-j.invariant.0 ∙ c.checks.invariant.0,
      below_more (meets code.positions code.ends (map bit_of ds) told) c.checks.k c.checks.invariant.1 here,
    )

pub returns-then-sum-min : goal.returns-then-sum-min
returns-then-sum-min g c =
    let code = code_of c.args.matrix.now in
    let ds = c.args.difference.now in
    let told = map g.B.TellsBit.told c.args.bits.now in
    let whole =
    gone_through told code.positions code.ends c.check-check.result.now c.checks.k c.loop-j.j c.loop-j.sum
    c.check-check.ensures.value c.if-j-check.true c.loop-j.invariant.2 in
    let here = fails_here code.positions code.ends ds told c.checks.k c.loop-j.sum c.checks-test.true whole (λ e. c.if-sum-min.true (e ∙ sym c.min.ensures)) in
    sym
    (below_fails (meets code.positions code.ends (map bit_of ds) told) (length (map bit_of ds)) c.checks.k
    (omega (arith, c.checks-test.true, length-map ds bit_of)) here)
