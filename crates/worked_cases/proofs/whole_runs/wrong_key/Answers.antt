use Rattle.std.proofs.Common.{◌≡◌, ℕ, List, [], ◌∷◌, get_or, replicate, refl, ap, arith}
use Rattle.propagation.specs.Course.{propagation_room}
use Rattle.protocol.specs.Reading.{here, there}
use Rattle.codes.specs.Six.{six_positions}
use Rattle.worked_cases.proofs.Computed.{computed}
use Rattle.worked_cases.proofs.whole_runs.wrong_key.Goals as goal

pub returns : goal.returns
returns c =
    record {
      settles =
          rw computed.one_round (
            0 ∷ 1 ∷ 0 ∷ 0 ∷ 0 ∷ 0 ∷ [],
            (
              six_positions,
              propagation_room,
              replicate 6 0,
              replicate 6 0,
              15,
              0 ∷ 1 ∷ 0 ∷ 0 ∷ 0 ∷ 0 ∷ [],
              24 ∷ 16 ∷ 24 ∷ 4 ∷ 4 ∷ 44 ∷ [],
              there (there (there (there here))),
              refl,
            ),
            refl,
          );
      meets = refl;
      differs = λ e. let z : ◌≡◌ {A = ℕ} 1 0 = ap (λ (xs : List ℕ). get_or xs 1 0) e in omega arith;
    }
