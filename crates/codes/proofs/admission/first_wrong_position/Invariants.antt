use Rattle.codes.specs.Places.{AllBelow}
use Rattle.codes.specs.Admission.{SoundPosition}
use Rattle.codes.proofs.admission.first_wrong_position.Given as goal

abbrev pub invariant-loop-i : goal.invariant-loop-i
invariant-loop-i l = AllBelow (SoundPosition l.positions) l.i
