use Rattle.std.proofs.Common.{ℤ, ap, ◌∙◌}
use Rattle.decoders.specs.Inquiry.{question}
use Rattle.decoders.specs.Question.{Answer}
use Rattle.decoders.proofs.Sound.{front_long, written}
use Rattle.propagation.specs.Course.{propagated}
use Rattle.propagation.proofs.Courses.{propagated_is}
use Rattle.propagation.proofs.Totals.{totals_small}
use Rattle.propagation.proofs.decoder.PropagationDecoder.decode.Goals as goal

pub write_answer-requires-clause-small : goal.write_answer-requires-clause-small
write_answer-requires-clause-small g c =
    totals_small (λ z. Unit {0}) (λ (z : ℤ). z) (g.R.CheckRule.meaning c.args.self.now.rule) c.run.new.totals
    (g.met.R.CheckRule.sound c.args.self.now.rule) c.run.ensures.kept

pub returns-clause-answered : goal.returns-clause-answered
returns-clause-answered g c =
    let rule = g.R.CheckRule.meaning c.args.self.now.rule in
    let limit = c.args.self.now.limit in
    let i = c.args.inquiry.now in
    let enough = c.in_ok-test_lengths.ensures in
    let whole = propagated_is rule limit (question i) (question c.fronts.result) c.iteration_limit.result c.run.result _ c.fronts.ensures.same
    c.iteration_limit.ensures.value c.run.ensures.count c.run.ensures.value in
    written i.matrix.now.width c.width-n.result (propagated rule limit (question i)) c.args.pattern.now c.write_answer.new.pattern
    c.args.confidence.now c.write_answer.new.confidence c.width-n.ensures
    (c.write_answer.auto.pattern ∙ front_long c.args.pattern.now c.width-n.result i.matrix.now.width c.width-n.ensures enough.patterned)
    (c.write_answer.auto.confidence ∙ front_long c.args.confidence.now c.width-n.result i.matrix.now.width c.width-n.ensures enough.trusted)
    (c.write_answer.ensures.signs ∙ ap (λ (a : Answer). a.pattern) whole)
    (c.write_answer.ensures.sizes ∙ ap (λ (a : Answer). a.confidence) whole)
