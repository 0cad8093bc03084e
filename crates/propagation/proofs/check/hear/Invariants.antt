use Rattle.std.proofs.Common.{◌≡◌, ◌≤◌, map, nat_abs}
use Rattle.propagation.specs.Check.{received, negatives}
use Rattle.propagation.specs.Within.{Fine}
use Rattle.propagation.proofs.Filling.{Filled}
use Rattle.propagation.proofs.Hearing.{first}
use Rattle.propagation.proofs.check.hear.Given as goal

abbrev pub invariant-loop-i : goal.invariant-loop-i
invariant-loop-i g l =
    let eighths = g.B.Belief.eighths in
    let k = (g.R.CheckRule.meaning l.rule).known in
    let f = received k (map eighths l.totals) l.check (map eighths l.initial.part) in
    Filled (Fine g.B.Belief.exact eighths k) eighths f l.initial.part l.part l.i
    × g.R.CheckRule.tallied l.rule (map nat_abs (first f l.i)) l.tally
    × (l.negatives ≡ negatives (first f l.i))
    × (l.negatives ≤ l.i)
