use Rattle.std.proofs.Common.{◌≡◌, take}
use Rattle.std.specs.String.{string_bytes}
use Rattle.reconcile.specs.Spelling.{spaced}
use Rattle.reconcile.proofs.spelling.spell_numbers.Given as goal

abbrev pub invariant-loop-x : goal.invariant-loop-x
invariant-loop-x l = string_bytes l.text ≡ spaced (take l.x-index l.numbers)
