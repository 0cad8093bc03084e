use Rattle.std.proofs.Common.{◌≡◌, arith, rules}
use Rattle.std.proofs.lemmas.Grind.{common_steps}
use Rattle.codes.specs.Code.{check, checks}
use Rattle.codes.specs.Of.{code_of}
use Rattle.codes.specs.Syndrome.{parity}
use Rattle.codes.proofs.Parities.{bytes_tell}
use Rattle.decoders.specs.Inquiry.{question}
use Rattle.decoders.specs.Question.{asked}
use Rattle.flipping.specs.Flips.{holding, misses, unmet}
use Rattle.flipping.proofs.Exact.{missed, not_missed}
use Rattle.flipping.proofs.Holding.{holding_le, degree_le_length, holding_more, holding_skip}
use Rattle.flipping.proofs.counts.count_unmet.Goals as goal
use Rattle.flipping.proofs.counts.count_unmet.Goals.{then-parity-min, else-parity-min}

pub tally-requires-clause-small : goal.tally-requires-clause-small
tally-requires-clause-small c =
    let x = c.args.front.now.inquiry.matrix.now in
    let test = misses (question c.args.front.now.inquiry) c.args.pattern.now in (
      holding (code_of x) test c.loop-k.k,
      search rules,
      λ i l.
          omega (
            arith,
            holding_le (code_of x) x.sound test c.loop-k.k i (omega arith),
            degree_le_length (code_of x).positions i,
            x.sound.sizes.1,
          ),
    )

pub loop-k-preserved : goal.loop-k-preserved
loop-k-preserved c =
    let i = c.args.front.now.inquiry in
    let code = code_of i.matrix.now in
    let pattern = c.args.pattern.now in
    let k = c.loop-k.k in
    let test = misses (question i) pattern in
    let bytes = bytes_tell pattern (λ j l. c.requires.bits.bits j (omega (arith, c.requires.bits.long))) in
    let told : c.parity.result ≡ parity pattern (check code k) = rw c.check-check.ensures.value at (rw bytes at c.parity.ensures) in
    elim c.if-parity-min.branch [
      | then-parity-min w ↦
          let here = missed i c.args.front.now.exact pattern k c.parity.result c.loop-k-test.true told (λ e. omega arith) in
          let held = w.tally.ensures (holding code test k) (λ j l. c.loop-k.invariant j (omega (arith, c.loop-k.auto.counts, c.fill.auto.self))) in
          λ j l.
          grind (
            arith,
            common_steps,
            w.counts-is,
            held j (omega (arith, c.loop-k.auto.counts, c.fill.auto.self)),
            c.check-check.ensures.value,
            holding_more code test k j here,
          )
      | else-parity-min w ↦
          let here = not_missed i c.args.front.now.exact pattern k c.parity.result c.loop-k-test.true told (omega arith) in
          λ j l. grind (arith, common_steps, w.counts-is, c.loop-k.invariant j l, holding_skip code test k j here)
    ]

pub returns : goal.returns
unfolding unmet asked
returns c i l =
    let all : c.loop-k.k ≡ checks (code_of c.args.front.now.inquiry.matrix.now) = omega (arith, c.args.front.now.exact.checked) in
    rw all at (c.loop-k.invariant i l)
