-- What runs that are just as long as the matrix asks say of the question.
use Rattle.std.proofs.Common.{◌≡◌, ℕ, suc, ◌+◌, ◌<◌, sym, true, false, not, List, map, length, get_or, ap, ◌∙◌, refl, arith}
use Rattle.std.proofs.lemmas.List.{take_all}
use Rattle.codes.specs.Admission.{degree}
use Rattle.codes.specs.Code.{check, checks}
use Rattle.codes.specs.Of.{code_of}
use Rattle.codes.specs.Syndrome.{IsKey, parity}
use Rattle.decoders.specs.Fit.{meets, check_fits}
use Rattle.decoders.specs.Inquiry.{question}
use Rattle.decoders.specs.Question.{asked, bit_of}
use Rattle.decoders.specs.declared.inquiry.Inquiry.{Inquiry}
use Rattle.decoders.proofs.Fits.{meets_here, fails_here}
use Rattle.flipping.specs.Flips.{met, unmet, misses, votes, most, leader, flipped, run, start_bit}
use Rattle.flipping.specs.Formed.{start_key}
use Rattle.flipping.specs.Runs.{Exact}
use Rattle.flipping.proofs.Holding.{holding-whole}
use Rattle.flipping.proofs.Steps.{run_stops, run_flips}

module _ (i : Inquiry) (exact : Exact i) (pattern : List ℕ) (k sum : ℕ) (h : k < length i.difference.now)
    (e : sum ≡ parity pattern (check (code_of i.matrix.now) k)) where
  same : check_fits (question i) pattern k
      ≡ meets (code_of i.matrix.now).positions (code_of i.matrix.now).ends (map bit_of i.difference.now) pattern k
  unfolding asked
  same = rw (take_all (checks (code_of i.matrix.now)) i.difference.now (omega (arith, exact.checked))) refl

  pub missed : (sum ≡ bit_of (get_or i.difference.now k 0) → ⊥) → misses (question i) pattern k ≡ true
  missed other = ap not (same ∙ fails_here (code_of i.matrix.now).positions (code_of i.matrix.now).ends i.difference.now pattern k sum h e other)

  pub not_missed : sum ≡ bit_of (get_or i.difference.now k 0) → misses (question i) pattern k ≡ false
  not_missed other = ap not (same ∙ meets_here (code_of i.matrix.now).positions (code_of i.matrix.now).ends i.difference.now pattern k sum h e other)

pub states_are : (i : Inquiry) → Exact i → (question i).states ≡ i.states.now
unfolding asked
states_are i exact = take_all i.matrix.now.width i.states.now (omega (arith, exact.stated))

pub starts : (i : Inquiry) (pattern : List ℕ) → Exact i → pattern ≡ map start_bit i.states.now → IsKey i.matrix.now.width pattern
starts i pattern exact e = rw (e, ← exact.stated) (start_key i.states.now)

module _ (i : Inquiry) (exact : Exact i) (f : ℕ → ℕ) where
  voters : most (votes (question i).states f) (question i).code.width ≡ most (votes i.states.now f) (length i.states.now)
  unfolding asked
  voters = rw (exact.stated, states_are i exact) refl

  leaders : leader (votes (question i).states f) (question i).code.width ≡ leader (votes i.states.now f) (length i.states.now)
  unfolding asked
  leaders = rw (exact.stated, states_are i exact) refl

module _ (i : Inquiry) (exact : Exact i) (pattern : List ℕ) (left : ℕ) where
  pub settle_stop : most (votes i.states.now (unmet (question i) pattern)) (length i.states.now) ≡ 0
      → run (question i) left pattern ≡ pattern
  settle_stop none = run_stops (question i) pattern left (voters i exact (unmet (question i) pattern) ∙ none)

  pub settle_flip : (k : ℕ)
      → (most (votes i.states.now (unmet (question i) pattern)) (length i.states.now) ≡ 0 → ⊥)
      → k ≡ leader (votes i.states.now (unmet (question i) pattern)) (length i.states.now)
      → run (question i) (suc left) pattern ≡ run (question i) left (flipped pattern k)
  settle_flip k some e =
      let f = unmet (question i) pattern in
      run_flips (question i) pattern left (λ none. some (sym (voters i exact f) ∙ none))
      ∙ ap (λ j. run (question i) left (flipped pattern j)) (leaders i exact f ∙ sym e)

-- met and unmet checks are all the position's checks
pub met_and_unmet : (i : Inquiry) (pattern : List ℕ) (k : ℕ)
    → met (question i) pattern k + unmet (question i) pattern k ≡ degree (code_of i.matrix.now).positions k
unfolding met unmet asked
met_and_unmet i pattern k = holding-whole (code_of i.matrix.now) i.matrix.now.sound (check_fits (question i) pattern) k
