-- One step of a run: it stops, or it flips the leader.
use Rattle.std.proofs.Common.{◌≡◌, ℕ, zero, suc, Bool, true, false, List, refl, arith}
use Rattle.std.proofs.lemmas.Bool.{and_parts, not_from_true}
use Rattle.std.proofs.lemmas.Grind.{common_steps}
use Rattle.codes.specs.Places.{AllBelow}
use Rattle.codes.specs.Code.{Code, checks}
use Rattle.decoders.specs.Question.{Question}
use Rattle.decoders.specs.Fit.{all_below, check_fits, place_fits, pattern_fits}
use Rattle.decoders.specs.declared.state.State.{State}
use Rattle.decoders.proofs.Fits.{below_at}
use Rattle.flipping.specs.Flips.{holding, misses, unmet, votes, most, leader, flipped, run}
use Rattle.flipping.proofs.Votes.{most-none}

holding-none : (code : Code) (test : ℕ → Bool) (k i : ℕ) → AllBelow (λ j. test j ≡ false) k → holding code test k i ≡ 0
holding-none code test zero i none = refl
holding-none code test (suc k) i none = grind (arith, common_steps, none k, holding-none code test k i)

unmet-none : (q : Question) (pattern : List ℕ) → pattern_fits q pattern ≡ true → (i : ℕ) → unmet q pattern i ≡ 0
unfolding pattern_fits unmet
unmet-none q pattern e i =
    let both = and_parts (all_below (check_fits q pattern) (checks q.code)) (all_below (place_fits q pattern) q.code.width) e in
    holding-none q.code (misses q pattern) (checks q.code) i
    (λ j l. not_from_true (check_fits q pattern j) (below_at (check_fits q pattern) (checks q.code) j l both.0))

votes-none : (states : List State) (count : ℕ → ℕ) (i : ℕ) → count i ≡ 0 → votes states count i ≡ 0
votes-none states count i none = grind (arith, common_steps)

module _ (q : Question) (pattern : List ℕ) where
  -- a pattern that fits has no unmet check
  fits-none : pattern_fits q pattern ≡ true → most (votes q.states (unmet q pattern)) q.code.width ≡ 0
  fits-none e =
      most-none (votes q.states (unmet q pattern)) q.code.width
      (λ i. votes-none q.states (unmet q pattern) i (unmet-none q pattern e i))

  pub run_stops : (left : ℕ) → most (votes q.states (unmet q pattern)) q.code.width ≡ 0 → run q left pattern ≡ pattern
  unfolding run
  run_stops zero none = refl
  run_stops (suc left) none = grind (arith, common_steps)

  pub run_flips : (left : ℕ)
      → (most (votes q.states (unmet q pattern)) q.code.width ≡ 0 → ⊥)
      → run q (suc left) pattern ≡ run q left (flipped pattern (leader (votes q.states (unmet q pattern)) q.code.width))
  unfolding run
  run_flips left some = grind (arith, common_steps, fits-none)
