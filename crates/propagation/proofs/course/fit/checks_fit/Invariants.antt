use Rattle.std.proofs.Common.{◌≡◌, true, map}
use Rattle.codes.specs.Of.{code_of}
use Rattle.decoders.specs.Question.{bit_of}
use Rattle.decoders.specs.Fit.{all_below, meets}
use Rattle.propagation.proofs.course.fit.checks_fit.Given as goal

-- every check that was passed is met
abbrev pub invariant-loop-k : goal.invariant-loop-k
invariant-loop-k g l =
    all_below
    (meets (code_of l.matrix).positions (code_of l.matrix).ends (map bit_of l.difference) (map g.B.TellsBit.told l.totals)) l.k
    ≡ true
