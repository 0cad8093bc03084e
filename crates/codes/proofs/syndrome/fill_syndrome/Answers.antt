use Rattle.std.proofs.Common.{◌≡◌, ℕ, ◌∙◌, arith}
use Rattle.std.proofs.lemmas.List.FromFn.{fill_by_all}
use Rattle.std.proofs.lemmas.List.Edits.{fill_by_more}
use Rattle.codes.specs.Code.{check, checks}
use Rattle.codes.specs.Of.{lent_of}
use Rattle.codes.specs.Syndrome.{parity}
use Rattle.codes.proofs.Parities.{bytes_tell}
use Rattle.codes.proofs.syndrome.fill_syndrome.Goals as goal

pub loop-k-preserved : goal.loop-k-preserved
loop-k-preserved c =
    let f : ℕ → ℕ = λ j. parity c.args.key.now (check (lent_of c.args.matrix) j) in
    let bytes = bytes_tell c.args.key.now c.requires.bits in
    let here : c.parity.result ≡ f c.loop-k.k = rw c.check.ensures.value at (rw bytes at c.parity.ensures) in
    rw here (fill_by_more f c.loop-k.out c.loop-k.k 0 (omega (arith, c.loop-k.auto.out)) c.loop-k.invariant)

pub returns : goal.returns
returns c =
    fill_by_all (λ j. parity c.args.key.now (check (lent_of c.args.matrix) j)) c.loop-k.out
    (checks (lent_of c.args.matrix)) 0 (c.loop-k.auto.out ∙ c.requires.long) (λ j h. c.loop-k.invariant j (omega (arith, c.loop-k-test.false)))
