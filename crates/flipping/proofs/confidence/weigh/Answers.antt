use Rattle.std.proofs.Common.{◌≡◌, ℕ, ◌+◌, ◌-◌, ◌<◌, ◌≢◌, arith}
use Rattle.std.proofs.lemmas.List.{get_or-set_other}
use Rattle.std.proofs.lemmas.List.Edits.{fill_by_more}
use Rattle.std.proofs.lemmas.List.FromFn.{fill_by_all}
use Rattle.decoders.specs.Inquiry.{question}
use Rattle.decoders.specs.Question.{asked}
use Rattle.flipping.specs.Flips.{met, unmet, confidences}
use Rattle.flipping.proofs.Exact.{met_and_unmet}
use Rattle.flipping.proofs.Words.{word_is}
use Rattle.flipping.proofs.confidence.weigh.Goals as goal

pub balance-requires-clause-few : goal.balance-requires-clause-few
balance-requires-clause-few c =
    let k = c.loop-i.i in
    let low : k < c.args.front.now.inquiry.matrix.now.width = omega (arith, c.count_degrees.auto.degrees, c.requires.trusted) in
    omega (arith, c.loop-i.invariant.1 k (omega arith) low, (c.args.front.now.inquiry.matrix.now.sound.places k low).1)

pub balance-requires-clause-part : goal.balance-requires-clause-part
balance-requires-clause-part c =
    let i = c.args.front.now.inquiry in
    let k = c.loop-i.i in
    let low : k < i.matrix.now.width = omega (arith, c.count_degrees.auto.degrees, c.requires.trusted) in
    let all = met_and_unmet i c.args.pattern.now k in (
      unmet (question i) c.args.pattern.now k,
      word_is _ _ (c.count_unmet.ensures k low) (omega (arith, all, (i.matrix.now.sound.places k low).1)),
      omega (arith, c.loop-i.invariant.1 k (omega arith) low, all),
    )

pub loop-i-preserved : goal.loop-i-preserved
loop-i-preserved c =
    let i = c.args.front.now.inquiry in
    let p = c.args.pattern.now in
    let k = c.loop-i.i in
    let f : ℕ → ℕ = λ j. 16 + met (question i) p j - unmet (question i) p j in
    let low : k < i.matrix.now.width = omega (arith, c.count_degrees.auto.degrees, c.requires.trusted) in
    let all = met_and_unmet i p k in
    let word = word_is _ _ (c.count_unmet.ensures k low) (omega (arith, all, (i.matrix.now.sound.places k low).1)) in
    let here : c.balance.result ≡ f k = omega (arith, c.balance.ensures _ word, c.loop-i.invariant.1 k (omega arith) low, all) in (
      rw here (fill_by_more f c.loop-i.confidence k 0 (omega (arith, c.loop-i.auto.confidence)) c.loop-i.invariant.0),
      λ j m n. let ne : j ≢ k = omega arith in rw get_or-set_other (c.loop-i.invariant.1 j (omega arith) n),
    )

pub returns : goal.returns
unfolding confidences asked
returns c =
    let i = c.args.front.now.inquiry in
    let p = c.args.pattern.now in
    fill_by_all (λ k. 16 + met (question i) p k - unmet (question i) p k) c.loop-i.confidence i.matrix.now.width 0
    (omega (arith, c.loop-i.auto.confidence, c.count_degrees.auto.degrees, c.requires.trusted))
    (λ k l. c.loop-i.invariant.0 k (omega (arith, c.loop-i-test.false, c.count_degrees.auto.degrees, c.requires.trusted)))
