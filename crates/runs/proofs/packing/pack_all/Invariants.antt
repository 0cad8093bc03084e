use Rattle.std.proofs.Common.{◌≡◌, map, length}
use Rattle.runs.specs.Bits.{bit_of, packed_to}
use Rattle.runs.proofs.packing.pack_all.Given as goal

abbrev pub invariant-loop-i : goal.invariant-loop-i
invariant-loop-i g l = l.out ≡ packed_to (length l.initial.out) (map bit_of (map (λ p. p.1) l.yielded))
