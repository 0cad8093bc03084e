use Rattle.std.proofs.Common.{◌≡◌, ◌-◌, ◌≤◌, true, length, map, take}
use Rattle.codes.specs.Of.{code_of}
use Rattle.codes.specs.Syndrome.{parity}
use Rattle.decoders.specs.Question.{bit_of}
use Rattle.decoders.specs.Fit.{all_below, meets}
use Rattle.decoders.proofs.fit.checks_fit.Given as goal

-- the parity of the entries of the check that were passed
abbrev pub invariant-loop-j : goal.invariant-loop-j
invariant-loop-j g l =
    (l.fit ≡ l.initial.fit) × (l.j ≤ length l.check) × (l.sum ≡ parity (map g.B.TellsBit.told l.bits) (take l.j l.check))

abbrev pub decreases-loop-j : goal.decreases-loop-j
decreases-loop-j g l = length l.check - l.j

-- every check that was passed is met
abbrev pub invariant-checks : goal.invariant-checks
invariant-checks g l =
    (l.fit ≡ true)
    × (all_below
    (meets (code_of l.matrix).positions (code_of l.matrix).ends (map bit_of l.difference) (map g.B.TellsBit.told l.bits)) l.k ≡ true)
