use Rattle.std.proofs.Common.{◌≡◌, map, get_or, nat_abs}
use Rattle.codes.specs.Places.{AllBelow}
use Rattle.propagation.specs.Course.{pattern_of}
use Rattle.propagation.proofs.answer.write_answer.Given as goal

abbrev pub invariant-loop-i : goal.invariant-loop-i
invariant-loop-i g l =
    let means = map g.B.Belief.eighths l.totals in
    AllBelow (λ j. get_or l.pattern j 0 ≡ get_or (pattern_of means) j 0) l.i
    × AllBelow (λ j. get_or l.confidence j 0 ≡ get_or (map nat_abs means) j 0) l.i
