use Rattle.std.proofs.Common.{◌≡◌, ◌+◌, ◌-◌, ◌*◌, sym, ap, ◌∙◌, arith}
use Rattle.std.proofs.ByRecursion.{All-weaker}
use Rattle.decoders.specs.Inquiry.{question}
use Rattle.decoders.specs.Question.{asked}
use Rattle.propagation.specs.Course.{Beliefs, begun, stops_at}
use Rattle.propagation.specs.Within.{Fine}
use Rattle.propagation.proofs.Courses.{course_none, course_more, stops_none, stops_later, fits_at}
use Rattle.propagation.proofs.course.Course.run.Goals as goal

pub loop-i-init : goal.loop-i-init
unfolding begun asked
loop-i-init g c =
    let exact = g.B.Belief.exact in
    let eighths = g.B.Belief.eighths in
    let rule = g.R.CheckRule.meaning c.args.self.now.rule.now in
    let q = question c.args.self.now.inquiry in (
      All-weaker (Fine exact eighths rule.known) (Fine exact eighths (17 * rule.known)) (λ x h. (h.0, omega (arith, h.1)))
          c.set_priors.new.totals c.set_priors.ensures.kept,
      c.clear_sent.ensures.kept rule.known,
      rw (c.set_priors.ensures.value, c.clear_sent.ensures.value, c.requires.long) (sym (course_none rule q)),
      ap (λ n. stops_at rule q n 0) (omega arith),
    )

pub loop-i-preserved : goal.loop-i-preserved
loop-i-preserved g c =
    let rule = g.R.CheckRule.meaning c.args.self.now.rule.now in
    let q = question c.args.self.now.inquiry in
    let i = c.loop-i.i in
    let next = c.renew.ensures.value ∙ course_more rule q i _ c.loop-i.invariant.2 in
    let fits = fits_at rule q (i + 1) _ c.renew.result c.renew.ensures.fit (ap (λ (b : Beliefs). b.totals) next) ∙ c.if-renew.false in (
      c.renew.ensures.kept_totals,
      c.renew.ensures.kept_sent,
      next,
      ap (λ n. stops_at rule q n (i + 1)) (omega arith) ∙ stops_later rule q (c.args.limit - i) i (omega (arith, c.loop-i-test.true)) fits
          ∙ c.loop-i.invariant.3,
    )

pub returns-clause-count : goal.returns-clause-count
returns-clause-count g c =
    let rule = g.R.CheckRule.meaning c.args.self.now.rule.now in
    let q = question c.args.self.now.inquiry in
    let all : c.loop-i.i ≡ c.args.limit = omega arith in
    let none : c.args.limit - c.loop-i.i ≡ 0 = omega arith in
    sym all ∙ sym (ap (λ n. stops_at rule q n c.loop-i.i) none ∙ stops_none rule q c.loop-i.i) ∙ c.loop-i.invariant.3
