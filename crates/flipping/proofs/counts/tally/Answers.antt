use Rattle.std.proofs.Common.{◌≡◌, ℕ, ◌+◌, ◌≤◌, length, get_or, take, pos, ◌+ℤ◌, sym, ap, arith, rules}
use Rattle.std.proofs.lemmas.List.{take_all, length-take}
use Rattle.codes.specs.Admission.{degree}
use Rattle.flipping.proofs.Words.{word_is, holds_more, degree_here, degree-other}
use Rattle.flipping.proofs.Holding.{degree_le_length}
use Rattle.flipping.proofs.counts.tally.Goals as goal

pub overflow_add-counts : goal.overflow_add-counts
overflow_add-counts c =
    let ps = c.args.entries.now in
    let j = c.loop-p.p-index in
    let p = get_or ps j 0 in
    let l = c.requires.within j c.loop-p-test.true in
    let f = c.requires.small.0 in
    let now : ℕ = f p + degree (take j ps) p in
    let low : now ≤ 16384 =
    omega (arith, c.requires.small.2 p l, degree_le_length (take j ps) p, length-take j ps, c.requires.few) in
    rw (word_is _ now (c.loop-p.invariant f c.requires.small.1 p l) (omega arith)) (search rules)

pub loop-p-preserved : goal.loop-p-preserved
loop-p-preserved c f held =
    let ps = c.args.entries.now in
    let j = c.loop-p.p-index in
    let p = get_or ps j 0 in
    let n = length c.args.counts.now in
    let l = c.requires.within j c.loop-p-test.true in
    let known = held p l in
    let bounded = c.requires.small.1 p l in
    let same : f p ≡ c.requires.small.0 p = cc in
    let now : ℕ = f p + degree (take j ps) p in
    let low : now ≤ 16384 =
    omega (arith, same, c.requires.small.2 p l, degree_le_length (take j ps) p, length-take j ps, c.requires.few) in
    let word = word_is _ now (c.loop-p.invariant f held p l) (omega arith) in
    holds_more c.loop-p.counts p n (now + 1) _ (λ i. f i + degree (take j ps) i)
    (λ i. f i + degree (take (j + 1) ps) i) c.loop-p.auto.counts l (ap (λ z. z +ℤ pos 1) word) (omega arith)
    (omega (arith, degree_here ps j c.loop-p-test.true))
    (λ k ne. ap (λ d. f k + d) (sym (degree-other ps j k c.loop-p-test.true ne))) (c.loop-p.invariant f held)

pub returns : goal.returns
returns c f held = let e = take_all c.loop-p.p-index c.args.entries.now c.loop-p-test.false in λ k h. rw e at (c.loop-p.invariant f held k h)
