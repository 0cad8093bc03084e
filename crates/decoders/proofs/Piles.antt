-- Which of a pile's two answers is the pile's, and what the second wrote over the first's.
use Rattle.std.proofs.Common.{◌≡◌, ℕ, true, false, List, take, sym, ap, ◌∙◌}
use Rattle.std.proofs.lemmas.Bool.{cond-true, cond-false}
use Rattle.decoders.specs.Question.{Question}
use Rattle.decoders.specs.Fit.{pattern_fits}
use Rattle.decoders.specs.Decoding.{Rule, Answered}
use Rattle.decoders.specs.Pile.{pile_rule}

module _ (first second : Rule) (q : Question) (n : ℕ) (p p₁ c c₁ : List ℕ) (given : Answered n (first q) p p₁ c c₁) where
  front : pattern_fits q (take n p₁) ≡ pattern_fits q (first q).pattern
  front = ap (pattern_fits q) given.pattern_front

  pub first_stands : true ≡ pattern_fits q (take n p₁) → Answered n (pile_rule first second q) p p₁ c c₁
  unfolding pile_rule
  first_stands e = rw (cond-true (pattern_fits q (first q).pattern) (first q) (second q) (sym (e ∙ front))) given

  pub second_stands : (p₂ c₂ : List ℕ)
      → false ≡ pattern_fits q (take n p₁)
      → Answered n (second q) p₁ p₂ c₁ c₂
      → Answered n (pile_rule first second q) p p₂ c c₂
  unfolding pile_rule
  second_stands p₂ c₂ e again =
      rw (cond-false (pattern_fits q (first q).pattern) (first q) (second q) (sym (e ∙ front)))
      (record {
        pattern_front = again.pattern_front;
        pattern_rest = again.pattern_rest ∙ given.pattern_rest;
        confidence_front = again.confidence_front;
        confidence_rest = again.confidence_rest ∙ given.confidence_rest;
      })
