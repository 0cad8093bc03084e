use Rattle.std.proofs.Common.{◌≡◌, length, get_or, take}
use Rattle.codes.specs.Places.{AllBelow}
use Rattle.codes.specs.Admission.{degree}
use Rattle.codes.proofs.admission.count_narrowly.Given as goal

abbrev pub invariant-loop-p : goal.invariant-loop-p
invariant-loop-p l =
    AllBelow (λ i. get_or l.degrees i 0 ≡ degree (take l.p-index l.positions) i) (length l.initial.degrees)
