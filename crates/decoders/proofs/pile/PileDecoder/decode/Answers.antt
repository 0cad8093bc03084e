use Rattle.std.proofs.Common.{sym, ◌∙◌}
use Rattle.decoders.specs.Inquiry.{question}
use Rattle.decoders.proofs.Piles.{first_stands, second_stands}
use Rattle.decoders.proofs.pile.PileDecoder.decode.Goals as goal

pub returns-in_ok-decode-2-clause-answered : goal.returns-in_ok-decode-2-clause-answered
returns-in_ok-decode-2-clause-answered g c =
    second_stands (g.A.Decoder.rule c.args.self.now.first) (g.B.Decoder.rule c.args.self.now.second)
    (question c.args.inquiry.now) c.args.inquiry.now.matrix.now.width c.args.pattern.now c.decode.new.pattern
    c.args.confidence.now c.decode.new.confidence c.in_ok-decode.ensures.answered
    c.decode-then-not-branch.new.pattern c.decode-then-not-branch.new.confidence
    (sym c.if-not-branch.true ∙ c.in_ok-fits.ensures.1) c.in_ok-decode-2.ensures.answered

pub returns-else-not-branch-clause-answered : goal.returns-else-not-branch-clause-answered
returns-else-not-branch-clause-answered g c =
    first_stands (g.A.Decoder.rule c.args.self.now.first) (g.B.Decoder.rule c.args.self.now.second)
    (question c.args.inquiry.now) c.args.inquiry.now.matrix.now.width c.args.pattern.now c.decode.new.pattern
    c.args.confidence.now c.decode.new.confidence c.in_ok-decode.ensures.answered
    (sym c.if-not-branch.false ∙ c.in_ok-fits.ensures.1)
