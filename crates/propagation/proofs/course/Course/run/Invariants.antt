use Rattle.std.proofs.Common.{◌≡◌, ◌-◌}
use Rattle.decoders.specs.Inquiry.{question}
use Rattle.propagation.specs.Course.{beliefs_of, course, stops_at}
use Rattle.propagation.specs.Within.{WithinKnown, WithinTotals}
use Rattle.propagation.proofs.course.Course.run.Given as goal

abbrev pub invariant-loop-i : goal.invariant-loop-i
invariant-loop-i g l =
    let exact = g.B.Belief.exact in
    let eighths = g.B.Belief.eighths in
    let rule = g.R.CheckRule.meaning l.self.rule.now in
    let q = question l.self.inquiry in
    WithinTotals exact eighths rule l.totals
    × WithinKnown exact eighths rule l.sent
    × (beliefs_of eighths l.totals l.sent ≡ course rule q l.i)
    × (stops_at rule q (l.limit - l.i) l.i ≡ stops_at rule q l.limit 0)
