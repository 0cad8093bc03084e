use Rattle.codes.proofs.Parities.{AddedBelow}
use Rattle.codes.proofs.syndrome.add_word.Given as goal

abbrev pub invariant-loop-i : goal.invariant-loop-i
invariant-loop-i l = AddedBelow l.initial.key l.word l.i l.key
