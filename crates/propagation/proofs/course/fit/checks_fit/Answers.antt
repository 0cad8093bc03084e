use Rattle.std.proofs.Common.{◌<◌, ◌≡◌, map, length, sym, ◌∙◌, arith}
use Rattle.std.proofs.lemmas.List.{length-map}
use Rattle.codes.specs.Code.{check_in}
use Rattle.codes.specs.Of.{code_of}
use Rattle.codes.specs.Syndrome.{parity}
use Rattle.decoders.specs.Question.{bit_of}
use Rattle.decoders.specs.Fit.{meets}
use Rattle.decoders.proofs.Fits.{below_more, below_fails, meets_here, fails_here}
use Rattle.propagation.proofs.course.fit.checks_fit.Goals as goal

pub loop-k-preserved : goal.loop-k-preserved
loop-k-preserved g c =
    let code = code_of c.args.matrix.now in
    let ds = c.args.difference.now in
    let signs = map g.B.TellsBit.told c.args.totals.now in
    let k = c.loop-k.k in
    let sum : c.parity.result ≡ parity signs (check_in code.positions code.ends k) = rw c.check.ensures.value at c.parity.ensures in
    let here = meets_here code.positions code.ends ds signs k c.parity.result c.loop-k-test.true sum (c.if-parity-min.false ∙ c.min.ensures) in
    below_more (meets code.positions code.ends (map bit_of ds) signs) k c.loop-k.invariant here

pub returns-then-parity-min : goal.returns-then-parity-min
returns-then-parity-min g c =
    let code = code_of c.args.matrix.now in
    let ds = c.args.difference.now in
    let signs = map g.B.TellsBit.told c.args.totals.now in
    let k = c.loop-k.k in
    let sum : c.parity.result ≡ parity signs (check_in code.positions code.ends k) = rw c.check.ensures.value at c.parity.ensures in
    let here = fails_here code.positions code.ends ds signs k c.parity.result c.loop-k-test.true sum (λ e. c.if-parity-min.true (e ∙ sym c.min.ensures)) in
    sym (below_fails (meets code.positions code.ends (map bit_of ds) signs) (length (map bit_of ds)) k (omega (arith, c.loop-k-test.true, length-map ds bit_of)) here)
