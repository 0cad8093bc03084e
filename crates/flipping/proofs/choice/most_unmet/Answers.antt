use Rattle.std.proofs.Common.{◌≡◌, ◌<◌, get_or, pos, ◌∙◌, arith, w32, SFits, rules}
use Rattle.std.proofs.lemmas.Grind.{common_steps}
use Rattle.std.proofs.lemmas.Int.{to_z-of_z}
use Rattle.flipping.specs.Flips.{votes, most}
use Rattle.flipping.proofs.Votes.{most_takes, most_keeps}
use Rattle.flipping.proofs.choice.most_unmet.Goals as goal
use Rattle.flipping.proofs.choice.most_unmet.Goals.{then-most-here, else-most-here}

pub loop-i-preserved : goal.loop-i-preserved
loop-i-preserved c f held =
    let i = c.loop-i.i in
    let word = get_or c.args.counts.now i (pos 0) in
    let vote = votes c.args.states.now f in
    let fit : SFits w32 word = search rules in
    let here : c.vote-here.result ≡ vote i = c.vote-here.ensures (f i) (to_z-of_z w32 word fit ∙ held i (omega (arith, c.requires))) in
    let before = c.loop-i.invariant f held in
    elim c.if-most-here.branch [
      | then-most-here w ↦
          let more : most vote i < vote i = omega (arith, w.if-most-here.true, here, before.0) in
          let next = most_takes vote i more in
          grind (arith, common_steps, w.most-is, w.leader-is, here, next.0, next.1)
      | else-most-here w ↦
          let next = most_keeps vote i (omega (arith, w.if-most-here.false, here, before.0)) in
          grind (arith, common_steps, w.most-is, w.leader-is, before.0, before.1, next.0, next.1)
    ]
