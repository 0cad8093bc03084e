use Rattle.std.proofs.Common.{◌≡◌, ◌+◌, ◌-◌, ◌<◌, ◌≤◌, [], ◌++◌, map, length, get_or, take, drop, sym, ap, ◌∙◌, arith, rules}
use Rattle.std.proofs.lemmas.List.{append-nil, drop_all, length-map, get_or-map, take_all}
use Rattle.codes.specs.Code.{start, end}
use Rattle.codes.specs.Of.{code_of}
use Rattle.decoders.specs.Question.{asked, bit_of}
use Rattle.propagation.specs.Passes.{sent_up_to, sent_by}
use Rattle.propagation.specs.Within.{Fine}
use Rattle.propagation.proofs.Sending.{up_to_more, start_last, length_up_to, reaches, part_was, part_put, all_put}
use Rattle.propagation.proofs.course.Course.send_all.Goals as goal

pub offset_bounds-sent-start : goal.offset_bounds-sent-start
offset_bounds-sent-start g c =
    let r = reaches c.args.self.now.inquiry.matrix.now c.loop-k.k (omega (arith, c.loop-k-test.true, c.args.self.now.differs)) in
    let s : c.start-start.result ≤ length c.loop-k.sent = omega (arith, c.start-start.ensures, r.whole, r.inside, c.loop-k.auto.sent, c.requires.long) in
    search rules

pub slice_bounds-part-end : goal.slice_bounds-part-end
slice_bounds-part-end g c =
    let r = reaches c.args.self.now.inquiry.matrix.now c.loop-k.k (omega (arith, c.loop-k-test.true, c.args.self.now.differs)) in
    let s : c.start-start.result + length c.check-check.result.now ≤ length c.loop-k.sent =
    omega (arith, c.start-start.ensures, ap length c.check-check.ensures.value, r.whole, r.inside, c.loop-k.auto.sent, c.requires.long) in
    search rules

pub loop-k-preserved : goal.loop-k-preserved
loop-k-preserved g c =
    let self = c.args.self.now in
    let m = self.inquiry.matrix.now in
    let ps = (code_of m).positions in
    let ends = (code_of m).ends in
    let ds = map bit_of self.inquiry.difference.now in
    let eighths = g.B.Belief.eighths in
    let rule = g.R.CheckRule.meaning self.rule.now in
    let totals = map eighths c.args.totals.now in
    let last = map eighths c.args.sent.now in
    let k = c.loop-k.k in
    let h : k < length ends = omega (arith, c.loop-k-test.true, self.differs) in
    let r = reaches m k h in
    let done = sent_up_to rule ps ends ds totals last k in
    let long : length done ≡ start ends k = length_up_to rule ps ends ds totals last m.sound.checks k (omega arith) in
    let bit : c.min.result ≡ get_or ds k 0 = c.min.ensures ∙ sym (get_or-map bit_of self.inquiry.difference.now k 0 0 c.loop-k-test.true) in
    let was = part_was eighths c.loop-k.sent done last (start ends k) long c.loop-k.invariant.1 (end ends k) in
    let new : map eighths c.renew_check.new.part ≡ sent_by rule ps ends ds totals last k =
    rw (c.check-check.ensures.value, c.start-start.ensures, r.whole, was, bit) at c.renew_check.ensures.value in
    rw (c.check-check.ensures.value, c.start-start.ensures, r.whole, r.next) (
      all_put (Fine g.B.Belief.exact eighths rule.known) (start ends k) (end ends k - start ends k) c.loop-k.sent c.renew_check.new.part
          c.loop-k.invariant.0 c.renew_check.ensures.kept,
      part_put eighths c.loop-k.sent done last (start ends k) long c.loop-k.invariant.1 (end ends k) c.renew_check.new.part (omega (arith, r.whole))
          ∙ ap (λ xs. xs ++ drop (end ends k) last) (ap (λ xs. done ++ xs) new ∙ sym (up_to_more rule ps ends ds totals last m.sound.checks k)),
    )

pub returns-clause-value : goal.returns-clause-value
unfolding asked
returns-clause-value g c =
    let self = c.args.self.now in
    let m = self.inquiry.matrix.now in
    let ps = (code_of m).positions in
    let ends = (code_of m).ends in
    let ds = self.inquiry.difference.now in
    let eighths = g.B.Belief.eighths in
    let rule = g.R.CheckRule.meaning self.rule.now in
    let totals = map eighths c.args.totals.now in
    let last = map eighths c.args.sent.now in
    let all : c.loop-k.k ≡ length ends = omega (arith, self.differs) in
    let done : start ends c.loop-k.k ≡ length ps = ap (start ends) all ∙ start_last ps ends m.sound.checks m.sound.sizes.0.2 in
    let rest : drop (start ends c.loop-k.k) last ≡ [] = drop_all (start ends c.loop-k.k) last
    (omega (arith, done, length-map c.args.sent.now eighths, c.requires.long)) in
    let whole : take (length ends) ds ≡ ds = take_all (length ends) ds (omega (arith, self.differs)) in
    c.loop-k.invariant.1 ∙ ap (λ xs. ◌++◌ (sent_up_to rule ps ends (map bit_of ds) totals last c.loop-k.k) xs) rest
    ∙ append-nil (sent_up_to rule ps ends (map bit_of ds) totals last c.loop-k.k)
    ∙ ap (sent_up_to rule ps ends (map bit_of ds) totals last) all
    ∙ ap (λ xs. sent_up_to rule ps ends (map bit_of xs) totals last (length ends)) (sym whole)
