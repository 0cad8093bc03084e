use Rattle.std.proofs.Common.{◌≡◌, ℕ, min, max, map, length, get_or, take, ℤ, pos, sym, ap, ◌∙◌, arith}
use Rattle.std.specs.List.{range_with_len}
use Rattle.std.proofs.lemmas.List.FromFn.{fill_by_all}
use Rattle.std.proofs.lemmas.List.{length-map, get_or-map, take_all}
use Rattle.decoders.specs.Question.{asked}
use Rattle.decoders.specs.declared.state.State.TheVariants.{Raw}
use Rattle.propagation.specs.Bounds.{prior_low}
use Rattle.propagation.specs.Passes.{prior, priors}
use Rattle.propagation.specs.Within.{Fine}
use Rattle.propagation.proofs.Filling.{Filled, filled_more, filled_fine, filled_all}
use Rattle.propagation.proofs.course.Course.set_priors.Goals as goal

pub loop-i-preserved : goal.loop-i-preserved
loop-i-preserved g c =
    let rule = g.R.CheckRule.meaning c.args.self.now.rule.now in
    let q = min (max c.args.self.now.inquiry.q 1) 12 in
    let class : c.clamp.result ≡ q = omega (arith, c.clamp.ensures) in
    let raw = c.raw-raw.ensures.value ∙ ap (λ n. pos (rule.raw n)) class in
    let value = c.prior.ensures.value (rule.raw q) rule.known raw c.known-known.ensures.value in
    let low = prior_low rule (g.met.R.CheckRule.sound c.args.self.now.rule.now) q (get_or c.args.self.now.inquiry.states.now c.loop-i.i Raw) in
    filled_more (Fine g.B.Belief.exact g.B.Belief.eighths rule.known) g.B.Belief.eighths
    (λ j. prior rule q (get_or c.args.self.now.inquiry.states.now j Raw)) c.args.totals.now c.loop-i.totals c.loop-i.i c.prior.result
    (omega (arith, c.loop-i.auto.totals)) c.loop-i.invariant
    (c.prior.ensures.kept, rw value low) value

pub returns : goal.returns
unfolding priors asked
returns g c =
    let eighths = g.B.Belief.eighths in
    let rule = g.R.CheckRule.meaning c.args.self.now.rule.now in
    let i = c.args.self.now.inquiry in
    let states = i.states.now in
    let n = i.matrix.now.width in
    let h = prior rule (min (max i.q 1) 12) in
    let f : ℕ → ℤ = λ j. h (get_or states j Raw) in
    let P = Fine g.B.Belief.exact eighths rule.known in
    let now = c.loop-i.totals in
    let all : c.loop-i.i ≡ length now = omega (arith, c.loop-i.auto.totals) in
    let inv : Filled P eighths f c.args.totals.now now (length now) = rw (← all) c.loop-i.invariant in
    let long : length now ≡ length states = c.loop-i.auto.totals ∙ c.requires ∙ sym c.args.self.now.stated in
    let whole : take n states ≡ states = take_all n states (omega (arith, c.args.self.now.stated)) in
    record {
      kept = filled_fine P eighths f c.args.totals.now now inv;
      value = filled_all P eighths f c.args.totals.now now inv ∙ ap (λ m. map f (range_with_len 0 m)) long
          ∙ sym (fill_by_all f (map h states) (length states) (pos 0) (length-map states h) (λ j l. get_or-map h states j Raw (pos 0) l))
          ∙ ap (map h) (sym whole);
    }
