use Rattle.std.proofs.Common.{◌≡◌, ◌+◌, ◌-◌, ◌≤◌, map, length, get_or, pos, nat_abs, sym, refl, ap, ◌∙◌, arith}
use Rattle.std.specs.List.{remove}
use Rattle.std.proofs.lemmas.List.{length-map}
use Rattle.codes.specs.Tells.{sign_bit}
use Rattle.propagation.specs.Bounds.{size_signed}
use Rattle.propagation.specs.Check.{answer, answers}
use Rattle.propagation.proofs.Answering.{negatives_few, own_counted, others_count, map_removed, own}
use Rattle.propagation.specs.Within.{Fine}
use Rattle.propagation.proofs.Filling.{Filled, filled_more, filled_fine, filled_all}
use Rattle.propagation.proofs.Hearing.{first}
use Rattle.propagation.proofs.check.answer_all.Goals as goal

pub overflow_add-count : goal.overflow_add-count
overflow_add-count g c =
    omega (
      arith,
      negatives_few (map g.B.Belief.eighths c.args.part.now),
      length-map c.args.part.now g.B.Belief.eighths,
      c.requires.counted,
      c.requires.few,
      c.from.ensures,
    )

pub overflow_sub-count : goal.overflow_sub-count
overflow_sub-count g c =
    let eighths = g.B.Belief.eighths in
    let given = c.args.part.now in
    let i = c.loop-place.place-index in
    let o = own g.B.Belief.exact eighths (g.R.CheckRule.meaning c.args.rule.now).known given i c.place-item.result
    (omega (arith, c.loop-place.auto.part)) c.requires.given (c.place-item.is ∙ c.loop-place.invariant.left i _ (omega arith)) in
    let bit : c.bit.result ≡ sign_bit (get_or (map eighths given) i (pos 0)) =
    c.bit.ensures.value ∙ ap g.B.TellsBit.told (sym c.place-item.is) ∙ g.met.B.Belief.tells c.place-item.result o.fine.0 ∙ ap sign_bit (sym o.value) in
    omega (arith, bit, own_counted (map eighths given) i o.near, c.requires.counted, c.from-in-loop-place.ensures)

pub without-requires-clause-some : goal.without-requires-clause-some
without-requires-clause-some g c =
    let eighths = g.B.Belief.eighths in
    let given = c.args.part.now in
    let i = c.loop-place.place-index in
    let sizes = map nat_abs (map eighths given) in
    let o = own g.B.Belief.exact eighths (g.R.CheckRule.meaning c.args.rule.now).known given i c.place-item.result
    (omega (arith, c.loop-place.auto.part)) c.requires.given (c.place-item.is ∙ c.loop-place.invariant.left i _ (omega arith)) in
    let size : eighths c.size.result ≡ pos (get_or sizes i 0) =
    c.size.ensures.value ∙ ap (λ x. pos (nat_abs (eighths x))) (sym c.place-item.is) ∙ ap pos (sym o.size) in
    (sizes, i, c.reply-reply.ensures sizes c.requires.tallied, (o.sized, size), omega (arith, o.size, o.fine.1))

pub loop-place-preserved : goal.loop-place-preserved
loop-place-preserved g c =
    let rule = g.R.CheckRule.meaning c.args.rule.now in
    let eighths = g.B.Belief.eighths in
    let given = c.args.part.now in
    let i = c.loop-place.place-index in
    let xs = map eighths given in
    let sizes = map nat_abs xs in
    let o = own g.B.Belief.exact eighths (g.R.CheckRule.meaning c.args.rule.now).known given i c.place-item.result
    (omega (arith, c.loop-place.auto.part)) c.requires.given (c.place-item.is ∙ c.loop-place.invariant.left i _ (omega arith)) in
    let own_bit : c.from-in-loop-place.result ≡ sign_bit (get_or xs i (pos 0)) =
    c.from-in-loop-place.ensures ∙ c.bit.ensures.value ∙ ap g.B.TellsBit.told (sym c.place-item.is) ∙ g.met.B.Belief.tells c.place-item.result
    o.fine.0 ∙ ap sign_bit (sym o.value) in
    let sum : c.args.gathered.negatives + c.from.result ≡ c.args.gathered.negatives + c.args.bit = omega (arith, c.from.ensures) in
    let count = others_count xs i (c.args.gathered.negatives + c.from.result) c.from-in-loop-place.result c.args.bit o.near
    (sum ∙ ap (λ n. n + c.args.bit) c.requires.counted) own_bit in
    let size : eighths c.size.result ≡ pos (get_or sizes i 0) =
    c.size.ensures.value ∙ ap (λ x. pos (nat_abs (eighths x))) (sym c.place-item.is) ∙ ap pos (sym o.size) in
    let sent = c.without.ensures.value sizes i (c.reply-reply.ensures sizes c.requires.tallied) (o.sized, size) in
    let value : eighths c.without.result ≡ answer rule c.args.bit xs i = sent ∙ rw (count, map_removed nat_abs xs i) refl in
    let fine : nat_abs (eighths c.without.result) ≤ rule.known =
    rw (sent, size_signed (c.args.gathered.negatives + c.from.result - c.from-in-loop-place.result) (rule.sends (remove sizes i)))
    ((g.met.R.CheckRule.sound c.args.rule.now).sends_high (remove sizes i)) in
    filled_more (Fine g.B.Belief.exact eighths rule.known) eighths (answer rule c.args.bit xs) given c.loop-place.part i c.without.result
    (omega (arith, c.loop-place.auto.part)) c.loop-place.invariant (c.without.ensures.kept, fine) value

pub returns : goal.returns
unfolding answers
returns g c =
    let eighths = g.B.Belief.eighths in
    let rule = g.R.CheckRule.meaning c.args.rule.now in
    let given = c.args.part.now in
    let f = answer rule c.args.bit (map eighths given) in
    let P = Fine g.B.Belief.exact eighths rule.known in
    let now = c.loop-place.part in
    let all : c.loop-place.place-index ≡ length now = omega (arith, c.loop-place.auto.part) in
    let inv : Filled P eighths f given now (length now) = rw (← all) c.loop-place.invariant in
    let long : length now ≡ length (map eighths given) = c.loop-place.auto.part ∙ sym (length-map given eighths) in
    record { kept = filled_fine P eighths f given now inv; value = filled_all P eighths f given now inv ∙ ap (first f) long }
