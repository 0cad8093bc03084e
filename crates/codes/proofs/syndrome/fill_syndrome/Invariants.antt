use Rattle.std.proofs.Common.{◌≡◌, get_or}
use Rattle.codes.specs.Places.{AllBelow}
use Rattle.codes.specs.Code.{check}
use Rattle.codes.specs.Of.{lent_of}
use Rattle.codes.specs.Syndrome.{parity}
use Rattle.codes.proofs.syndrome.fill_syndrome.Given as goal

abbrev pub invariant-loop-k : goal.invariant-loop-k
invariant-loop-k l = AllBelow (λ j. get_or l.out j 0 ≡ parity l.key (check (lent_of l.matrix) j)) l.k
