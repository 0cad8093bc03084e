use Rattle.std.proofs.Common.{◌≡◌, true, length, sym, arith}
use Rattle.std.proofs.lemmas.List.{length_push}
use Rattle.std.proofs.lemmas.Slice.Zip.{zip_turn, zip_end}
use Rattle.decoders.specs.Fit.{agrees_at}
use Rattle.decoders.specs.declared.state.State.TheVariants.{Raw}
use Rattle.decoders.proofs.Fits.{below_more, below_fails}
use Rattle.decoders.proofs.fit.known_bits_fit.Goals as goal

pub returns-then-not-agrees : goal.returns-then-not-agrees
returns-then-not-agrees c =
    let states = c.args.states.now in
    let pattern = c.args.pattern.now in
    let turn = zip_turn states pattern c.loop-state.yielded c.into_iter-state-iterator.result c.loop-state.state-iterator c.next.new.self c.next.result
    (cc) (cc) c.loop-state.yielded_by (c.in-Some.state, c.in-Some.bit) c.in-Some.is c.next.ensures.steps in
    sym
    (below_fails (agrees_at states pattern) (length states) (length c.loop-state.yielded) turn.0
    (rw (← turn.2 Raw, ← turn.3 0) (sym c.if-not-agrees.ensures)))

pub loop-state-preserved : goal.loop-state-preserved
loop-state-preserved c =
    let states = c.args.states.now in
    let pattern = c.args.pattern.now in
    let turn = zip_turn states pattern c.loop-state.yielded c.into_iter-state-iterator.result c.loop-state.state-iterator c.next.new.self c.next.result
    (cc) (cc) c.loop-state.yielded_by (c.in-Some.state, c.in-Some.bit) c.in-Some.is c.next.ensures.steps in
    let test = agrees_at states pattern in
    let here : test (length c.loop-state.yielded) ≡ true = rw (← turn.2 Raw, ← turn.3 0) (sym c.if-not-agrees.ensures) in
    rw (length_push c.loop-state.yielded (c.in-Some.state, c.in-Some.bit)) (below_more test (length c.loop-state.yielded) c.loop-state.invariant here)

pub returns : goal.returns
returns c =
    let states = c.args.states.now in
    let pattern = c.args.pattern.now in
    let end = zip_end states pattern c.loop-state.yielded c.into_iter-state-iterator.result c.loop-state.state-iterator c.next.new.self c.next.result
    (cc) (cc) c.loop-state.yielded_by c.in-None.is c.next.ensures.steps in
    let all : length c.loop-state.yielded ≡ length states = omega (arith, end, c.requires) in
    sym (rw all at c.loop-state.invariant)
