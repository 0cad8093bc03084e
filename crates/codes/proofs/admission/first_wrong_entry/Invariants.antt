use Rattle.std.proofs.Common.{◌<◌, ◌≤◌, length}
use Rattle.codes.specs.Places.{AllBelow}
use Rattle.codes.specs.Code.{start, end}
use Rattle.codes.specs.Admission.{SoundEntry}
use Rattle.codes.proofs.admission.first_wrong_entry.Given as goal

abbrev pub invariant-loop-j : goal.invariant-loop-j
invariant-loop-j l =
    (l.check < length l.ends) × (start l.ends l.check ≤ l.j) × (0 < l.j → start l.ends l.check < l.j) × (l.j ≤ end l.ends l.check)
    × AllBelow (SoundEntry l.n l.positions l.ends) l.j
