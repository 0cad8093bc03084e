-- Iteration after iteration.
use Rattle.std.proofs.Common.{◌≡◌, ℕ, zero, suc, ◌+◌, ◌-◌, ◌<◌, Bool, true, false, List, ℤ, sym, refl, ap, ◌∙◌, ⊎_elim, add-one, arith}
use Rattle.std.proofs.lemmas.Bool.{cond-true, cond-false, cases_Bool}
use Rattle.check_rules.specs.Meaning.{Meaning}
use Rattle.decoders.specs.Fit.{pattern_fits}
use Rattle.decoders.specs.Question.{Question}
use Rattle.propagation.specs.Course.{Beliefs, begun, renewed, course, pattern_of, fits_after, stops_at, limited, answer_from, propagated}
use Rattle.propagation.specs.Promises.{EarlyFits}

module _ (rule : Meaning) (q : Question) where
  pub course_none : course rule q 0 ≡ begun rule q
  unfolding course
  course_none = refl

  pub course_more : (i : ℕ) (b : Beliefs) → b ≡ course rule q i → renewed rule q b ≡ course rule q (i + 1)
  unfolding course
  course_more i b e = rw add-one (ap (renewed rule q) e)

  pub stops_none : (i : ℕ) → stops_at rule q 0 i ≡ i
  unfolding stops_at
  stops_none i = refl

  pub stops_here : (left i : ℕ) → 0 < left → fits_after rule q (i + 1) ≡ true → stops_at rule q left i ≡ i + 1
  unfolding stops_at
  stops_here zero i h e = absurd (omega arith)
  stops_here (suc left) i h e = cond-true (fits_after rule q (i + 1)) (i + 1) (stops_at rule q left (i + 1)) e

  pub stops_later : (left i : ℕ) → 0 < left → fits_after rule q (i + 1) ≡ false → stops_at rule q (left - 1) (i + 1) ≡ stops_at rule q left i
  unfolding stops_at
  stops_later zero i h e = absurd (omega arith)
  stops_later (suc left) i h e =
      ap (λ n. stops_at rule q n (i + 1)) (omega arith) ∙ sym (cond-false (fits_after rule q (i + 1)) (i + 1) (stops_at rule q left (i + 1)) e)

  pub fits_at : (i : ℕ) (totals : List ℤ) (r : Bool) → r ≡ pattern_fits q (pattern_of totals) → totals ≡ (course rule q i).totals → fits_after rule q i ≡ r
  unfolding fits_after
  fits_at i totals r e f = sym (e ∙ ap (λ ts. pattern_fits q (pattern_of ts)) f)

  -- where it stops before what is left runs out, the pattern fits
  pub stops_early : (left i : ℕ) → stops_at rule q left i < i + left → fits_after rule q (stops_at rule q left i) ≡ true
  unfolding stops_at
  stops_early zero i h = absurd (omega arith)
  stops_early (suc left) i h =
      ⊎_elim
      (λ yes'. let e = cond-true (fits_after rule q (i + 1)) (i + 1) (stops_at rule q left (i + 1)) yes' in rw e yes')
      (λ no'.
      let e = cond-false (fits_after rule q (i + 1)) (i + 1) (stops_at rule q left (i + 1)) no' in
      rw e (stops_early left (i + 1) (omega (arith, rw e at h))))
      (cases_Bool (fits_after rule q (i + 1)))

pub ruleset course_steps = (course_more, stops_here, fits_at)

pub early_fits : (rule : Meaning) (limit : ℕ) → EarlyFits rule limit
unfolding propagated fits_after
early_fits rule limit q h = stops_early rule q (limited limit) 0 (omega arith)

-- what the iterations came to is the rule's answer
pub propagated_is : (rule : Meaning) (limit : ℕ) (q f : Question) (most r : ℕ) (totals : List ℤ)
    → f ≡ q
    → most ≡ limited limit
    → r ≡ stops_at rule f most 0
    → totals ≡ (course rule f r).totals
    → answer_from totals ≡ propagated rule limit q
unfolding propagated
propagated_is rule limit q f most r totals e m h t = rw (t, h, m, e) refl
