use Rattle.std.proofs.Common.{◌≡◌, length, replicate, pos, ap, ◌∙◌, arith}
use Rattle.std.proofs.ByRecursion.{All-weaker}
use Rattle.propagation.specs.Within.{Fine}
use Rattle.propagation.proofs.Filling.{Filled, filled_more, filled_fine, filled_all, map_same}
use Rattle.propagation.proofs.course.passes.clear_sent.Goals as goal

pub loop-i-preserved : goal.loop-i-preserved
loop-i-preserved g c =
    filled_more (λ x. g.B.Belief.exact x × (g.B.Belief.eighths x ≡ pos 0)) g.B.Belief.eighths (λ j. pos 0) c.args.sent.now c.loop-i.sent
    c.loop-i.i c.of.result (omega (arith, c.loop-i.auto.sent)) c.loop-i.invariant
    (c.of.ensures.kept, c.of.ensures.value) c.of.ensures.value

pub returns : goal.returns
returns g c =
    let exact = g.B.Belief.exact in
    let eighths = g.B.Belief.eighths in
    let now = c.loop-i.sent in
    let all : c.loop-i.i ≡ length now = omega (arith, c.loop-i.auto.sent) in
    let P : g.row.B.Denot → Type 0 = λ x. exact x × (eighths x ≡ pos 0) in
    let inv : Filled P eighths (λ j. pos 0) c.args.sent.now now (length now) = rw (← all) c.loop-i.invariant in
    record {
      kept = λ k. All-weaker P (Fine exact eighths k) (λ x h. (h.0, rw h.1 (omega arith))) now (filled_fine P eighths (λ j. pos 0) c.args.sent.now now inv);
      value = filled_all P eighths (λ j. pos 0) c.args.sent.now now inv ∙ map_same (pos 0) 0 (length now) ∙ ap (λ n. replicate n (pos 0))
          c.loop-i.auto.sent;
    }
