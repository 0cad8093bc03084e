-- The run in two rounds meets the premises of the guarantee, and 110011 is a companion word of it.
use Rattle.std.proofs.Common.{◌≡◌, ℕ, zero, suc, ◌<◌, true, false, List, [], ◌∷◌, ◌++◌, get_or, replicate, refl, arith, lit<, lit≤}
use Rattle.protocol.specs.Plan.{has_kind}
use Rattle.protocol.specs.Runs.{Event}
use Rattle.protocol.specs.Reading.{here, there}
use Rattle.protocol.specs.Guarantee.{Premises, Companion, is_public}
use Rattle.worked_cases.specs.Six.{alice_key}
use Rattle.worked_cases.specs.Block.{alice, bob, bob_key, six_block, from_alice, from_bob, alice_discloses, bob_discloses}
use Rattle.worked_cases.proofs.Computed.{twice}
use Rattle.worked_cases.proofs.Listed.{◌then◌, each, Every, opens_as, TurnsSoundly, turns_with, delivered}
use Rattle.worked_cases.proofs.Matrix.{six_admissible}

abbrev settled_run : List Event
settled_run = twice alice_key bob_key alice_key

-- call by call, the oldest first; a premise looks at the calls of one kind alone
pub premised : Premises (six_block bob_key) settled_run
premised =
    record {
      matrix = six_admissible;
      number = lit< tt;
      apart = λ e. omega arith;
      alice_opens =
          opens_as (six_block bob_key) alice 0 alice_key settled_run
          (tt then (λ e same. (refl, refl, refl)) then (λ e same. absurd (omega arith))
          then tt then tt then tt then tt then tt then tt then tt then tt
          then tt then tt then tt then tt then tt then tt then tt then tt);
      bob_opens =
          opens_as (six_block bob_key) bob 1 bob_key settled_run
          (tt then (λ e same. absurd (omega arith)) then (λ e same. (refl, refl, refl))
          then tt then tt then tt then tt then tt then tt then tt then tt
          then tt then tt then tt then tt then tt then tt then tt then tt);
      alice_once = lit≤ tt;
      bob_once = lit≤ tt;
      alice_turns = turns_with (six_block bob_key) alice settled_run turned;
      bob_turns = turns_with (six_block bob_key) bob settled_run turned;
      alice_hears =
          delivered alice bob settled_run
          (tt then tt then tt then tt then tt
          then (λ same. (0, replicate 10 0, from_bob ++ 0 ∷ [], here)) then (λ same. absurd (omega arith))
          then tt then tt then tt then tt
          then (λ same. (1, replicate 10 0, bob_discloses, here)) then (λ same. absurd (omega arith))
          then tt then tt then tt then tt then tt then tt);
      bob_hears =
          delivered bob alice settled_run
          (tt then tt then tt then tt then tt
          then (λ same. absurd (omega arith)) then (λ same. (0, replicate 10 0, from_alice ++ 0 ∷ [], there (there here)))
          then tt then tt then tt then tt
          then (λ same. absurd (omega arith)) then (λ same. (1, replicate 10 0, alice_discloses, there (there here)))
          then tt then tt then tt then tt then tt then tt);
    }
  where
    turned : Every (TurnsSoundly (six_block bob_key)) settled_run
    turned =
        tt then tt then tt then tt then tt then tt then tt then refl then refl
        then tt then tt then tt then tt then refl then refl then tt then tt then tt then tt

-- six places, and those past them
by_place : (P : ℕ → Type 0) → P 0 → P 1 → P 2 → P 3 → P 4 → P 5
    → ((n : ℕ) → P (suc (suc (suc (suc (suc (suc n))))))) → (i : ℕ) → P i
by_place P a b c d e f past zero = a
by_place P a b c d e f past (suc zero) = b
by_place P a b c d e f past (suc (suc zero)) = c
by_place P a b c d e f past (suc (suc (suc zero))) = d
by_place P a b c d e f past (suc (suc (suc (suc zero)))) = e
by_place P a b c d e f past (suc (suc (suc (suc (suc zero))))) = f
by_place P a b c d e f past (suc (suc (suc (suc (suc (suc n)))))) = past n

abbrev pub word : List ℕ
word = 1 ∷ 1 ∷ 0 ∷ 0 ∷ 1 ∷ 1 ∷ []

pub companion : Companion (six_block bob_key) settled_run word
companion =
    record {
      bits =
          record {
            long = refl;
            bits =
                each (λ i. get_or word i 0 < 2) 6
                (tt then lit< tt then lit< tt then lit< tt then lit< tt then lit< tt then lit< tt);
          };
      evenly = refl;
      shortened =
          by_place (λ i. has_kind 2 (replicate 6 0) i ≡ true → get_or word i 0 ≡ 0)
          (λ e. clash e) (λ e. clash e) (λ e. refl) (λ e. refl) (λ e. clash e) (λ e. clash e) (λ n e. refl);
      public =
          by_place (λ i. is_public (six_block bob_key) settled_run i ≡ true → get_or word i 0 ≡ 0)
          (λ e. clash e) (λ e. clash e) (λ e. refl) (λ e. refl) (λ e. clash e) (λ e. clash e) (λ n e. refl);
    }
  where
    clash : {A : Type 0} → false ≡ true → A
    clash e = let z : ◌≡◌ {A = ℕ} 0 1 = cc in absurd (omega arith)
