-- What every run of flips keeps, and what follows for the rule.
use Rattle.std.proofs.Common.{◌≡◌, ℕ, zero, suc, ◌<◌, ◌≤◌, true, false, List, map, get_or, sym, refl, ◌∙◌, ⊎_elim, arith}
use Rattle.std.proofs.lemmas.List.{get_or-map}
use Rattle.std.proofs.lemmas.Bool.{cases_eq, true≢false}
use Rattle.std.proofs.lemmas.Grind.{common_steps}
use Rattle.codes.specs.Places.{AllBelow}
use Rattle.decoders.specs.Question.{Question}
use Rattle.decoders.specs.Fit.{is_known, agrees, agrees_at}
use Rattle.decoders.specs.declared.state.State.{State}
use Rattle.decoders.specs.declared.state.State.TheVariants.{Raw, Punctured, Known0, Known1}
use Rattle.flipping.specs.Flips.{unmet, votes, most, leader, flipped, run, start_bit, limit_of, flipping_rule}
use Rattle.flipping.specs.Promises.{KeepsKnown, Reached, WithinLimit}
use Rattle.flipping.proofs.Votes.{leads, voter_free}
use Rattle.flipping.proofs.Steps.{run_stops, run_flips}

module _ (q : Question) where
  -- the position that is flipped is one of the question's, and not known
  flips_free : (p : List ℕ)
      → (most (votes q.states (unmet q p)) q.code.width ≡ 0 → ⊥)
      → (leader (votes q.states (unmet q p)) q.code.width < q.code.width)
      × (is_known (get_or q.states (leader (votes q.states (unmet q p)) q.code.width) Raw) ≡ false)
  flips_free p some =
      let vote = votes q.states (unmet q p) in
      let first = leads vote q.code.width some in
      (first.0, voter_free q.states (unmet q p) (leader vote q.code.width) (λ none. some (sym first.1 ∙ none)))

  -- what holds at the start and lasts over a flip of a position that is not known holds at the end
  run_keeps : (P : List ℕ → Type 0)
      → ((p : List ℕ) (i : ℕ) → i < q.code.width → is_known (get_or q.states i Raw) ≡ false → P p → P (flipped p i))
      → (left : ℕ) (p : List ℕ)
      → P p
      → P (run q left p)
  unfolding run
  run_keeps P step zero p h = h
  run_keeps P step (suc left) p h = grind (arith, common_steps, flips_free p, step p, run_keeps P step left)

  reached : (left : ℕ) (p : List ℕ) → (flips : ℕ) × (flips ≤ left) × Reached q.states flips p (run q left p)
  unfolding run
  reached zero p = (0, omega arith, refl)
  reached (suc left) p =
      ⊎_elim (λ none. (0, omega arith, sym (run_stops q p (suc left) none)))
      (λ some.
      let rest = reached left (flipped p (leader (votes q.states (unmet q p)) q.code.width)) in
      (suc rest.0, omega (arith, rest.1), (leader (votes q.states (unmet q p)) q.code.width, (flips_free p some).1, rw (run_flips q p left some) rest.2)))
      (cases_eq (most (votes q.states (unmet q p)) q.code.width) 0)

start_agrees : (s : State) → agrees s (start_bit s) ≡ true
start_agrees Raw = refl
start_agrees Punctured = refl
start_agrees Known0 = refl
start_agrees Known1 = refl

free_agrees : (s : State) (b : ℕ) → is_known s ≡ false → agrees s b ≡ true
free_agrees Raw b e = refl
free_agrees Punctured b e = refl
free_agrees Known0 b e = absurd (true≢false e)
free_agrees Known1 b e = absurd (true≢false e)

flip_agrees : (states : List State) (p : List ℕ) (i n : ℕ)
    → is_known (get_or states i Raw) ≡ false
    → AllBelow (λ k. agrees_at states p k ≡ true) n
    → AllBelow (λ k. agrees_at states (flipped p i) k ≡ true) n
flip_agrees states p i n free h k l =
    grind (arith, common_steps, h k, free_agrees (get_or states k Raw) (get_or (flipped p i) k 0), cases_eq k i)

pub keeps_known : (limit : ℕ) → KeepsKnown limit
unfolding flipping_rule
keeps_known limit q sound =
    run_keeps q (λ p. AllBelow (λ k. agrees_at q.states p k ≡ true) q.code.width)
    (λ p i _ free h. flip_agrees q.states p i q.code.width free h) (limit_of limit) (map start_bit q.states)
    (λ k l. rw (get_or-map start_bit q.states k Raw 0 (omega (arith, sound.states))) (start_agrees (get_or q.states k Raw)))

pub within_limit : (limit : ℕ) → WithinLimit limit
unfolding flipping_rule
within_limit limit q = reached q (limit_of limit) (map start_bit q.states)
