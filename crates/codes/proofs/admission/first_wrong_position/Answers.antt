use Rattle.std.proofs.Common.{◌-◌, ◌<◌, ◌∙◌, arith, below_more}
use Rattle.std.proofs.lemmas.List.{get_or-replicate, get_or-take, length-take}
use Rattle.codes.specs.Admission.{SoundPosition}
use Rattle.codes.proofs.admission.first_wrong_position.Goals as goal

pub count_narrowly-requires-clause-clear : goal.count_narrowly-requires-clause-clear
count_narrowly-requires-clause-clear c = λ k h. get_or-replicate 2048 k 0 0 h

pub loop-i-preserved : goal.loop-i-preserved
loop-i-preserved c =
    let near : c.loop-i.i < c.args.n - 0 = omega (arith, c.loop-i-test.true, length-take (c.args.n - 0) c.count_narrowly.new.degrees) in
    let low : c.loop-i.i < 2048 = omega (arith, near, c.requires.width) in
    let e = get_or-take (c.args.n - 0) c.count_narrowly.new.degrees c.loop-i.i 0 near ∙ c.count_narrowly.ensures c.loop-i.i low in
    below_more (SoundPosition c.args.positions.now) c.loop-i.i c.loop-i.invariant
    (omega (arith, e, c.if-degree-lt1.false), omega (arith, e, c.if-degree-gt-MOST_CHECKS_HELD.false))
