use Rattle.propagation.proofs.Sizes.{nat_abs_held}
use Rattle.propagation.proofs.check.receive.Goals as goal

pub returns-clause-low : goal.returns-clause-low
returns-clause-low g c k e =
    rw (c.hold.ensures.value k e) (nat_abs_held k (g.B.Belief.eighths c.less.result))
