use Rattle.std.proofs.Common.{arith}
use Rattle.std.proofs.lemmas.Grind.{common_steps}
use Rattle.codes.specs.Of.{code_of}
use Rattle.decoders.proofs.Fits.{fronts_ask}
use Rattle.decoders.proofs.inquiry.Inquiry.fronts.Goals as goal

pub returns-clause-same : goal.returns-clause-same
returns-clause-same c =
    let i = c.args.self.now in
    fronts_ask (code_of i.matrix.now) i.difference.now _ i.states.now _ i.q (grind (arith, common_steps)) (grind (arith, common_steps))
