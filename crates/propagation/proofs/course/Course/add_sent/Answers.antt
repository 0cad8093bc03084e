use Rattle.std.proofs.Common.{◌≡◌, suc, ◌<◌, ◌≤◌, map, length, get_or, pos, ◌+ℤ◌, sym, ap, ◌∙◌, ap₂, arith}
use Rattle.std.proofs.ByRecursion.{All-set}
use Rattle.std.proofs.lemmas.List.{length-map, map-set}
use Rattle.codes.specs.Admission.{degree}
use Rattle.codes.specs.Places.{AllBelow}
use Rattle.codes.specs.Of.{code_of}
use Rattle.propagation.specs.Bounds.{totalled_size}
use Rattle.propagation.proofs.Elements.{read_map}
use Rattle.propagation.proofs.Totals.{TotalledUpTo, totalled_more, next_total, totalled_all, fine_sizes, prior_size, totals_fine}
use Rattle.propagation.proofs.course.Course.add_sent.Goals as goal

pub plus-requires-clause-small : goal.plus-requires-clause-small
plus-requires-clause-small g c =
    let exact = g.B.Belief.exact in
    let eighths = g.B.Belief.eighths in
    let rule = g.R.CheckRule.meaning c.args.self.now.rule.now in
    let m = c.args.self.now.inquiry.matrix.now in
    let ps = (code_of m).positions in
    let at = c.positions-position-items.ensures in
    let sent = c.args.sent.now in
    let priors = c.args.totals.now in
    let totals = c.loop-j.totals in
    let j = c.loop-j.j in
    let h : j < length ps = omega (arith, c.loop-j-test.true, ap length at) in
    let p = get_or ps j 0 in
    let near : p < length priors = omega (arith, (m.sound.entries j h).0, c.requires.wide) in
    let here : p < length totals = omega (arith, c.loop-j.auto.totals, near) in
    let there : j < length sent = omega (arith, c.requires.long) in
    let few : degree ps p ≤ 16 = (m.sound.places p (m.sound.entries j h).0).1 in
    let total = read_map eighths totals p c.index-totals-i.result here (rw at at c.index-totals-i.is) in
    let belief = read_map eighths sent j c.index-sent-j.result there c.index-sent-j.is in
    let next = next_total (map eighths priors) ps (map eighths sent) (map eighths totals) j h (rw (length-map sent eighths) there)
    (rw (length-map priors eighths) near) c.loop-j.invariant.1 in
    let sum : eighths c.index-totals-i.result +ℤ eighths c.index-sent-j.result ≡ _ = ap₂ (λ a b. a +ℤ b) (sym total) (sym belief) ∙ next in
    let size = totalled_size (map eighths priors) ps (map eighths sent) rule.known (suc j) p
    (fine_sizes exact eighths rule.known sent c.requires.given) (prior_size exact eighths rule.known priors p near c.requires.priors) few in
    rw sum (omega (arith, size, (g.met.R.CheckRule.sound c.args.self.now.rule.now).known_high))

pub loop-j-preserved : goal.loop-j-preserved
loop-j-preserved g c =
    let exact = g.B.Belief.exact in
    let eighths = g.B.Belief.eighths in
    let m = c.args.self.now.inquiry.matrix.now in
    let ps = (code_of m).positions in
    let at = c.positions-position-items.ensures in
    let sent = c.args.sent.now in
    let priors = c.args.totals.now in
    let totals = c.loop-j.totals in
    let j = c.loop-j.j in
    let h : j < length ps = omega (arith, c.loop-j-test.true, ap length at) in
    let p = get_or ps j 0 in
    let near : p < length priors = omega (arith, (m.sound.entries j h).0, c.requires.wide) in
    let here : p < length totals = omega (arith, c.loop-j.auto.totals, near) in
    let there : j < length sent = omega (arith, c.requires.long) in
    let total = read_map eighths totals p c.index-totals-i.result here (rw at at c.index-totals-i.is) in
    let belief = read_map eighths sent j c.index-sent-j.result there c.index-sent-j.is in
    let value : eighths c.plus.result ≡ get_or (map eighths totals) p (pos 0) +ℤ get_or (map eighths sent) j (pos 0) =
    c.plus.ensures.value ∙ ap₂ (λ a b. a +ℤ b) (sym total) (sym belief) in
    let long : length (map eighths totals) ≡ length (map eighths priors) = length-map totals eighths ∙ c.loop-j.auto.totals ∙ sym (length-map priors eighths) in
    rw at (
      All-set exact totals p c.plus.result c.plus.ensures.kept c.loop-j.invariant.0,
      λ i l. ap (λ zs. get_or zs i (pos 0)) (map-set eighths totals p c.plus.result)
          ∙ totalled_more (map eighths priors) ps (map eighths sent) (map eighths totals) j (eighths c.plus.result) long h
          (rw (length-map sent eighths) there) (rw (length-map priors eighths) near) value c.loop-j.invariant.1 i l,
    )

pub returns : goal.returns
returns g c =
    let exact = g.B.Belief.exact in
    let eighths = g.B.Belief.eighths in
    let k = (g.R.CheckRule.meaning c.args.self.now.rule.now).known in
    let m = c.args.self.now.inquiry.matrix.now in
    let ps = (code_of m).positions in
    let at = c.positions-position-items.ensures in
    let sent = c.args.sent.now in
    let priors = c.args.totals.now in
    let totals = c.loop-j.totals in
    let all : c.loop-j.j ≡ length ps = omega (arith, c.loop-j-test.false, c.loop-j.auto.j-end, ap length at) in
    let inv : TotalledUpTo (map eighths priors) ps (map eighths sent) (map eighths totals) (length ps) = rw (← all) c.loop-j.invariant.1 in
    let few : AllBelow (λ i. degree ps i ≤ 16) (length priors) = λ i h. (m.sound.places i (omega (arith, c.requires.wide))).1 in
    record {
      kept = totals_fine exact eighths k (length ps) priors totals ps sent c.loop-j.auto.totals few c.requires.priors c.requires.given c.loop-j.invariant.0 inv;
      value = totalled_all (map eighths priors) ps (map eighths sent) (map eighths totals)
          (length-map totals eighths ∙ c.loop-j.auto.totals ∙ sym (length-map priors eighths)) (sym (length-map sent eighths ∙ c.requires.long)) inv;
    }
