use Rattle.std.proofs.Common.{◌≡◌, ◌++◌, map, drop}
use Rattle.codes.specs.Code.{start}
use Rattle.codes.specs.Of.{code_of}
use Rattle.decoders.specs.Question.{bit_of}
use Rattle.propagation.specs.Passes.{sent_up_to}
use Rattle.propagation.specs.Within.{WithinKnown}
use Rattle.propagation.proofs.course.Course.send_all.Given as goal

abbrev pub invariant-loop-k : goal.invariant-loop-k
invariant-loop-k g l =
    let eighths = g.B.Belief.eighths in
    let rule = g.R.CheckRule.meaning l.self.rule.now in
    let code = code_of l.self.inquiry.matrix.now in
    let last = map eighths l.initial.sent in
    WithinKnown g.B.Belief.exact eighths rule l.sent
    × (map eighths l.sent
    ≡ sent_up_to rule code.positions code.ends (map bit_of l.self.inquiry.difference.now) (map eighths l.totals) last l.k ++ drop (start code.ends l.k) last)
