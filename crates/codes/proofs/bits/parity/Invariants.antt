use Rattle.std.proofs.Common.{◌≡◌, map, take}
use Rattle.codes.specs.Syndrome.{parity}
use Rattle.codes.proofs.bits.parity.Given as goal

abbrev pub invariant-loop-p : goal.invariant-loop-p
invariant-loop-p g l = l.sum ≡ parity (map g.B.TellsBit.told l.bits) (take l.p-index l.positions)
