use Rattle.std.proofs.Common.{◌≡◌, map, length, get_or, nat_abs, sym, ap, ◌∙◌, arith}
use Rattle.codes.specs.Tells.{sign_bit}
use Rattle.propagation.specs.Check.{received, heard}
use Rattle.propagation.specs.Within.{Fine}
use Rattle.propagation.proofs.Elements.{read_map}
use Rattle.propagation.proofs.Filling.{Filled, filled_more, filled_fine, filled_all}
use Rattle.propagation.proofs.Hearing.{first, sizes_more, negatives_more, sizes_length}
use Rattle.propagation.proofs.check.hear.Goals as goal

pub take-tally-requires-clause-bound : goal.take-tally-requires-clause-bound
take-tally-requires-clause-bound g c = (_, c.size.ensures.value, c.receive-belief.ensures.low _ c.known-known.ensures.value)

pub take-tally-requires-clause-some : goal.take-tally-requires-clause-some
take-tally-requires-clause-some g c =
    let eighths = g.B.Belief.eighths in
    let f = received (g.R.CheckRule.meaning c.args.rule.now).known (map eighths c.args.totals.now) c.args.check.now (map eighths c.args.part.now) in
    (map nat_abs (first f c.loop-i.i), c.loop-i.invariant.1, rw sizes_length (omega (arith, c.requires.few)))

pub loop-i-preserved : goal.loop-i-preserved
loop-i-preserved g c =
    let eighths = g.B.Belief.eighths in
    let k = (g.R.CheckRule.meaning c.args.rule.now).known in
    let last = c.args.part.now in
    let i = c.loop-i.i in
    let f = received k (map eighths c.args.totals.now) c.args.check.now (map eighths last) in
    let total = read_map eighths c.args.totals.now (get_or c.args.check.now i 0) c.index-totals-position.result
    (c.requires.within i c.loop-i-test.true) c.index-totals-position.is in
    let sent = read_map eighths last i c.index-part-i.result (omega (arith, c.requires.long))
    (c.index-part-i.is ∙ c.loop-i.invariant.0.left i c.index-part-i.result (omega arith)) in
    let value : eighths c.receive-belief.result ≡ f i = rw (total, sent) (c.receive-belief.ensures.value k c.known-known.ensures.value) in
    let bit : c.bit.result ≡ sign_bit (f i) =
    c.bit.ensures.value ∙ g.met.B.Belief.tells c.receive-belief.result c.receive-belief.ensures.kept ∙ ap sign_bit value in (
      filled_more (Fine g.B.Belief.exact eighths k) eighths f last c.loop-i.part i c.receive-belief.result
          (omega (arith, c.loop-i.auto.part, c.requires.long)) c.loop-i.invariant.0
          (c.receive-belief.ensures.kept, c.receive-belief.ensures.low k c.known-known.ensures.value) value,
      rw (sizes_more f i, ← value) (c.take-tally.ensures (map nat_abs (first f i)) (nat_abs (eighths c.receive-belief.result))
          c.loop-i.invariant.1 c.size.ensures.value),
      omega (arith, negatives_more f i, c.loop-i.invariant.2, bit, c.from-negatives.ensures),
      omega (arith, c.loop-i.invariant.3, c.bit.ensures.bound, c.from-negatives.ensures),
    )

pub returns : goal.returns
unfolding heard
returns g c =
    let eighths = g.B.Belief.eighths in
    let k = (g.R.CheckRule.meaning c.args.rule.now).known in
    let last = c.args.part.now in
    let f = received k (map eighths c.args.totals.now) c.args.check.now (map eighths last) in
    let P = Fine g.B.Belief.exact eighths k in
    let now = c.loop-i.part in
    let all : c.loop-i.i ≡ length now = omega (arith, c.loop-i.auto.part, c.requires.long) in
    let inv : Filled P eighths f last now (length now) = rw (← all) c.loop-i.invariant.0 in
    let value : map eighths now ≡ first f c.loop-i.i = filled_all P eighths f last now inv ∙ ap (first f) (sym all) in
    record {
      kept = filled_fine P eighths f last now inv;
      value = value ∙ ap (first f) (all ∙ c.loop-i.auto.part ∙ c.requires.long);
      tallied = rw value c.loop-i.invariant.1;
      counted = rw value c.loop-i.invariant.2;
    }
