-- The test of the signs, of runs that are as long as the matrix asks.
use Rattle.std.proofs.Common.{◌≡◌, ℕ, Bool, true, false, ◌&&◌, List, map, length, take, sym, ap, refl, ◌∙◌, arith}
use Rattle.std.proofs.lemmas.List.{length-map, take_all}
use Rattle.codes.specs.Code.{checks}
use Rattle.codes.specs.Of.{code_of}
use Rattle.decoders.specs.Fit.{all_below, checks_met, agrees_at, pattern_fits}
use Rattle.decoders.specs.Inquiry.{question}
use Rattle.decoders.specs.Question.{asked, bit_of}
use Rattle.decoders.specs.declared.inquiry.Inquiry.{Inquiry}
use Rattle.propagation.proofs.Signs.{told_signs}

module _ (i : Inquiry) (pattern : List ℕ) (a : Bool) (differs : length i.difference.now ≡ checks (code_of i.matrix.now))
    (stated : length i.states.now ≡ i.matrix.now.width) (met : a ≡ checks_met (code_of i.matrix.now) (map bit_of i.difference.now) pattern) where
  pub fits_both : (b : Bool) → b ≡ all_below (agrees_at i.states.now pattern) (length i.states.now) → (a && b) ≡ pattern_fits (question i) pattern
  unfolding asked pattern_fits
  fits_both b agreed =
      let ds = i.difference.now in
      let states = i.states.now in
      let whole_m : take (checks (code_of i.matrix.now)) ds ≡ ds = take_all (checks (code_of i.matrix.now)) ds (omega (arith, differs)) in
      let whole_n : take i.matrix.now.width states ≡ states = take_all i.matrix.now.width states (omega (arith, stated)) in
      let long : length (map bit_of ds) ≡ checks (code_of i.matrix.now) = length-map ds bit_of ∙ differs in
      rw (met, agreed, whole_m, whole_n, long, stated) refl

  pub fits_checked : (b : Bool) → a ≡ true → b ≡ all_below (agrees_at i.states.now pattern) (length i.states.now) → b ≡ pattern_fits (question i) pattern
  fits_checked b all agreed = sym (ap (λ t. t && b) all) ∙ fits_both b agreed

  pub fits_failed : a ≡ false → a ≡ pattern_fits (question i) pattern
  fits_failed left =
      let b = all_below (agrees_at i.states.now pattern) (length i.states.now) in
      left ∙ sym (ap (λ t. t && b) left) ∙ fits_both b refl

pub ruleset sign_fits = (told_signs, fits_checked, fits_failed)
