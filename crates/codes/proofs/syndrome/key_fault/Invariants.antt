use Rattle.std.proofs.Common.{◌<◌, ◌≤◌, get_or}
use Rattle.codes.specs.Places.{AllBelow}
use Rattle.codes.proofs.syndrome.key_fault.Given as goal

abbrev pub invariant-loop-i : goal.invariant-loop-i
invariant-loop-i l = (l.i ≤ l.n) × AllBelow (λ j. get_or l.key j 0 < 2) l.i
