use Rattle.std.proofs.Common.{◌≡◌, ℕ, suc, ◌+◌, ◌-◌, ◌<◌, length, sym, ap, ◌∙◌, arith}
use Rattle.decoders.specs.Inquiry.{question}
use Rattle.flipping.specs.Flips.{unmet, votes, most, leader, run}
use Rattle.flipping.specs.Formed.{flipped_key}
use Rattle.flipping.proofs.Exact.{settle_stop, settle_flip}
use Rattle.flipping.proofs.Votes.{leader-below}
use Rattle.flipping.proofs.pattern.settle.Goals as goal
use Rattle.flipping.proofs.pattern.settle.Goals.{In-Some}

abbrev vote : In-Some → ℕ → ℕ
vote c = votes c.args.front.now.inquiry.states.now (unmet (question c.args.front.now.inquiry) c.loop.pattern)

abbrev places : In-Some → ℕ
places c = length c.args.front.now.inquiry.states.now

-- what the choice promises, at the counts that were made
chosen : (c : In-Some) → (most (vote c) (places c) ≡ 0 → ⊥) × (c.in-Some.i ≡ leader (vote c) (places c))
chosen c =
    let q = question c.args.front.now.inquiry in
    c.in-Some.ensures (unmet q c.loop.pattern) (λ i l. c.count_unmet.ensures i (omega (arith, c.args.front.now.exact.stated)))

below : (c : In-Some) → c.in-Some.i < length c.loop.pattern
below c =
    let h = chosen c in
    omega (arith, leader-below _ c.in-Some.i (length c.args.front.now.inquiry.states.now) h.0 h.1, c.args.front.now.exact.stated, c.loop.invariant.0.long)

pub bounds-pattern-i : goal.bounds-pattern-i
bounds-pattern-i c = below (goal.at.bounds-pattern-i c).In-Some

pub overflow_sub-pattern : goal.overflow_sub-pattern
overflow_sub-pattern c =
    let low = below (goal.at.overflow_sub-pattern c).In-Some in
    omega (arith, c.loop.invariant.0.bits c.in-Some.i (omega (arith, low, c.loop.invariant.0.long)))

pub bounds-pattern-i-in-loop : goal.bounds-pattern-i-in-loop
bounds-pattern-i-in-loop c = below (goal.at.bounds-pattern-i-in-loop c).In-Some

pub loop-preserved : goal.loop-preserved
loop-preserved c =
    let at = (goal.at.loop-preserved c).In-Some in
    let i = c.args.front.now.inquiry in
    let pattern = c.loop.pattern in
    let left : ℕ = c.args.limit - (c.loop.counter + 1) in
    let more : c.args.limit - c.loop.counter ≡ suc left = omega arith in (
      flipped_key i.matrix.now.width pattern c.in-Some.i c.loop.invariant.0,
      sym (settle_flip i c.args.front.now.exact pattern left c.in-Some.i (chosen at).0 (chosen at).1)
          ∙ ap (λ n. run (question i) n pattern) (sym more) ∙ c.loop.invariant.1,
    )

pub returns-after-loop-clause-ran : goal.returns-after-loop-clause-ran
unfolding run
returns-after-loop-clause-ran c =
    let none : c.args.limit - c.loop.counter ≡ 0 = omega arith in
    sym (ap (λ n. run (question c.args.front.now.inquiry) n c.loop.pattern) none) ∙ c.loop.invariant.1

pub returns-in_default-clause-ran : goal.returns-in_default-clause-ran
returns-in_default-clause-ran c =
    let i = c.args.front.now.inquiry in
    let none = c.in_default.ensures (unmet (question i) c.loop.pattern) (λ k l. c.count_unmet.ensures k (omega (arith, c.args.front.now.exact.stated))) in
    sym (settle_stop i c.args.front.now.exact c.loop.pattern (c.args.limit - c.loop.counter) none) ∙ c.loop.invariant.1
