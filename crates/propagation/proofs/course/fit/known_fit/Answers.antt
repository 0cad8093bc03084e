use Rattle.std.proofs.Common.{◌≡◌, true, map, length, sym, arith}
use Rattle.std.proofs.lemmas.List.{length_push}
use Rattle.std.proofs.lemmas.Slice.Zip.{zip_turn, zip_end}
use Rattle.decoders.specs.Fit.{agrees_at}
use Rattle.decoders.specs.declared.state.State.TheVariants.{Raw}
use Rattle.decoders.proofs.Fits.{below_more, below_fails}
use Rattle.propagation.specs.Course.{pattern_of}
use Rattle.propagation.proofs.Signs.{bit_read}
use Rattle.propagation.proofs.course.fit.known_fit.Goals as goal

pub returns-then-not-agrees : goal.returns-then-not-agrees
returns-then-not-agrees g c =
    let totals = c.args.totals.now in
    let states = c.args.states.now in
    let turn = zip_turn states totals c.loop-state.yielded c.into_iter-state-iterator.result c.loop-state.state-iterator c.next.new.self c.next.result
    (cc) (cc) c.loop-state.yielded_by (c.in-Some.state, c.in-Some.total) c.in-Some.is c.next.ensures.steps in
    let i = length c.loop-state.yielded in
    let bit =
    bit_read g.B.Belief.exact g.B.Belief.eighths g.B.TellsBit.told g.met.B.Belief.tells totals i c.bit.result c.in-Some.total.now
    turn.1 (turn.3 c.in-Some.total.now) c.requires.whole c.bit.ensures.value in
    sym
    (below_fails (agrees_at states (pattern_of (map g.B.Belief.eighths totals))) (length states) i turn.0
    (rw (← turn.2 Raw, ← bit) (sym c.if-not-agrees.ensures)))

pub loop-state-preserved : goal.loop-state-preserved
loop-state-preserved g c =
    let totals = c.args.totals.now in
    let states = c.args.states.now in
    let turn = zip_turn states totals c.loop-state.yielded c.into_iter-state-iterator.result c.loop-state.state-iterator c.next.new.self c.next.result
    (cc) (cc) c.loop-state.yielded_by (c.in-Some.state, c.in-Some.total) c.in-Some.is c.next.ensures.steps in
    let i = length c.loop-state.yielded in
    let bit =
    bit_read g.B.Belief.exact g.B.Belief.eighths g.B.TellsBit.told g.met.B.Belief.tells totals i c.bit.result c.in-Some.total.now
    turn.1 (turn.3 c.in-Some.total.now) c.requires.whole c.bit.ensures.value in
    let test = agrees_at states (pattern_of (map g.B.Belief.eighths totals)) in
    let here : test i ≡ true = rw (← turn.2 Raw, ← bit) (sym c.if-not-agrees.ensures) in
    rw (length_push c.loop-state.yielded (c.in-Some.state, c.in-Some.total)) (below_more test i c.loop-state.invariant here)

pub returns : goal.returns
returns g c =
    let totals = c.args.totals.now in
    let states = c.args.states.now in
    let end = zip_end states totals c.loop-state.yielded c.into_iter-state-iterator.result c.loop-state.state-iterator c.next.new.self c.next.result
    (cc) (cc) c.loop-state.yielded_by c.in-None.is c.next.ensures.steps in
    let all : length c.loop-state.yielded ≡ length states = omega (arith, end, c.requires.long) in
    sym (rw all at c.loop-state.invariant)
