use Rattle.std.proofs.Common.{map}
use Rattle.std.specs.List.{AllByRecursion}
use Rattle.codes.specs.Of.{code_of}
use Rattle.propagation.proofs.Totals.{TotalledUpTo}
use Rattle.propagation.proofs.course.Course.add_sent.Given as goal

abbrev pub invariant-loop-j : goal.invariant-loop-j
invariant-loop-j g l =
    let eighths = g.B.Belief.eighths in
    AllByRecursion g.B.Belief.exact l.totals
    × TotalledUpTo (map eighths l.initial.totals) (code_of l.self.inquiry.matrix.now).positions (map eighths l.sent) (map eighths l.totals) l.j
