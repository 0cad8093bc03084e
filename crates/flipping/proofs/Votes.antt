-- The most votes, and the first place that has them.
use Rattle.std.proofs.Common.{◌≡◌, ℕ, zero, suc, ◌+◌, ◌<◌, ◌≤◌, false, List, get_or, refl, add-one, arith}
use Rattle.std.proofs.lemmas.Bool.{cases_eq, cases_Bool}
use Rattle.std.proofs.lemmas.Grind.{common_steps}
use Rattle.decoders.specs.Fit.{is_known}
use Rattle.decoders.specs.declared.state.State.{State}
use Rattle.decoders.specs.declared.state.State.TheVariants.{Raw}
use Rattle.flipping.specs.Flips.{votes, most, leader}
use Rattle.flipping.specs.Promises.{LeaderIsFirst}

module _ (vote : ℕ → ℕ) where
  pub most_takes : (i : ℕ) → most vote i < vote i → (vote i ≡ most vote (i + 1)) × (i ≡ leader vote (i + 1))
  most_takes i h = rw add-one (grind (arith, common_steps))

  pub most_keeps : (i : ℕ) → vote i ≤ most vote i → (most vote i ≡ most vote (i + 1)) × (leader vote i ≡ leader vote (i + 1))
  most_keeps i h = rw add-one (grind (arith, common_steps))

  -- where there are votes, the leader has the most
  pub leads : (n : ℕ) → (most vote n ≡ 0 → ⊥) → (leader vote n < n) × (vote (leader vote n) ≡ most vote n)
  leads zero some = absurd (some refl)
  leads (suc n) some = grind (arith, common_steps, leads n)

  most-bound : (n k : ℕ) → k < n → vote k ≤ most vote n
  most-bound zero k l = absurd (omega arith)
  most-bound (suc n) k l = grind (arith, common_steps, most-bound n k, cases_eq k n)

  -- before the leader nobody has as many
  fewer_before : (n k : ℕ) → k < leader vote n → vote k < most vote n
  fewer_before zero k l = absurd (omega arith)
  fewer_before (suc n) k l = grind (arith, common_steps, fewer_before n k, most-bound n k)

-- no votes at all
pub most-none : (vote : ℕ → ℕ) (n : ℕ) → ((i : ℕ) → vote i ≡ 0) → most vote n ≡ 0
most-none vote zero none = refl
most-none vote (suc n) none = omega (arith, most-none vote n none, none n)

-- who leads with votes is not known
pub voter_free : (states : List State) (count : ℕ → ℕ) (i : ℕ) → (votes states count i ≡ 0 → ⊥) → is_known (get_or states i Raw) ≡ false
voter_free states count i some = grind (arith, common_steps, cases_Bool (is_known (get_or states i Raw)))

pub leader-below : (vote : ℕ → ℕ) (i n : ℕ) → (most vote n ≡ 0 → ⊥) → i ≡ leader vote n → i < n
leader-below vote i n some e = rw e (leads vote n some).0

pub leader_is_first : LeaderIsFirst
leader_is_first vote n some =
    let lead = leads vote n some in
    record {
      below = lead.0;
      greatest = λ k l. omega (arith, most-bound vote n k l, lead.1);
      first = λ k l. omega (arith, fewer_before vote n k l, lead.1);
    }
