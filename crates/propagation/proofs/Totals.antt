-- Totals, entry after entry, and how large they grow.
use Rattle.std.proofs.Common.{◌≡◌, ℕ, zero, suc, ◌+◌, ◌*◌, ◌<◌, ◌≤◌, true, false, cond, eqb, ◌≢◌, List, [], ◌∷◌, map, length, get_or, take, set, ℤ}
use Rattle.std.proofs.Common.{pos, ◌+ℤ◌, nat_abs, sym, refl, ap, ◌∙◌, ⊎_elim, add-one, arith}
use lib.IntN.{+ℤ_assoc, +ℤ_idl, +ℤ_idr}
use Rattle.std.specs.List.{AllByRecursion}
use Rattle.std.proofs.lemmas.List.FromFn.{fill_by_all}
use Rattle.std.proofs.ByRecursion.{All-map, All-weaker, All-get_or, all_from_every}
use Rattle.std.proofs.lemmas.List.{get_or-set_same, get_or-set_other, get_or-map, length-map, take_all}
use Rattle.std.proofs.lemmas.Bool.{cases_eq, eq-eqb, ne_eqb, cond-true}
use Rattle.codes.specs.Admission.{degree}
use Rattle.codes.specs.Places.{AllBelow}
use Rattle.check_rules.specs.Meaning.{Meaning, SoundMeaning}
use Rattle.propagation.specs.Passes.{sent_to, totals_of}
use Rattle.propagation.specs.Within.{Fine, Within, WithinTotals}
use Rattle.propagation.specs.Bounds.{totalled_size}

pub sent_more : (i : ℕ) (ps : List ℕ) (ss : List ℤ) (j : ℕ)
    → j < length ps
    → j < length ss
    → sent_to i (take (suc j) ps) (take (suc j) ss) ≡ sent_to i (take j ps) (take j ss) +ℤ cond (eqb (get_or ps j 0) i) (get_or ss j (pos 0)) (pos 0)
sent_more i [] ss j h l = absurd (omega arith)
sent_more i (p ∷ ps) [] j h l = absurd (omega arith)
sent_more i (p ∷ ps) (s ∷ ss) zero h l = +ℤ_idr (cond (eqb p i) s (pos 0)) ∙ sym (+ℤ_idl (cond (eqb p i) s (pos 0)))
sent_more i (p ∷ ps) (s ∷ ss) (suc j) h l =
    ap (λ z. cond (eqb p i) s (pos 0) +ℤ z) (sent_more i ps ss j (omega arith) (omega arith))
    ∙ sym (+ℤ_assoc (cond (eqb p i) s (pos 0)) (sent_to i (take j ps) (take j ss)) (cond (eqb (get_or ps j 0) i) (get_or ss j (pos 0)) (pos 0)))

-- each total is its prior plus what the first j entries sent to it
abbrev pub TotalledUpTo : List ℤ → List ℕ → List ℤ → List ℤ → ℕ → Type 0
TotalledUpTo priors ps ss totals j =
    (i : ℕ) → i < length priors → get_or totals i (pos 0) ≡ get_or priors i (pos 0) +ℤ sent_to i (take j ps) (take j ss)

module _ (priors : List ℤ) (ps : List ℕ) (ss : List ℤ) where
  pub totalled_none : TotalledUpTo priors ps ss priors 0
  totalled_none i h = sym (+ℤ_idr (get_or priors i (pos 0)))

  pub totalled_more : (totals : List ℤ) (j : ℕ) (v : ℤ)
      → length totals ≡ length priors
      → j < length ps
      → j < length ss
      → get_or ps j 0 < length priors
      → v ≡ get_or totals (get_or ps j 0) (pos 0) +ℤ get_or ss j (pos 0)
      → TotalledUpTo priors ps ss totals j
      → TotalledUpTo priors ps ss (set totals (get_or ps j 0) v) (j + 1)
  totalled_more totals j v long h l near e inv i lt =
      let p = get_or ps j 0 in
      let s = get_or ss j (pos 0) in
      let more = sent_more i ps ss j h l in
      rw (add-one, more)
      (⊎_elim
      (λ same.
      let here : p < length totals = omega arith in
      let test : eqb p i ≡ true = eq-eqb p i (sym same) in
      rw (test, same, get_or-set_same totals p v (pos 0) here, e, inv p near) (+ℤ_assoc (get_or priors p (pos 0)) (sent_to p (take j ps) (take j ss)) s))
      (λ other.
      let ne : i ≢ p = other in
      let test : eqb p i ≡ false = ne_eqb p i (λ q. other (sym q)) in
      rw (test, get_or-set_other totals p i v (pos 0) ne, +ℤ_idr (sent_to i (take j ps) (take j ss))) (inv i lt))
      (cases_eq i p))

  -- the total at entry j's position, with what the entry sent
  pub next_total : (totals : List ℤ) (j : ℕ)
      → j < length ps
      → j < length ss
      → get_or ps j 0 < length priors
      → TotalledUpTo priors ps ss totals j
      → get_or totals (get_or ps j 0) (pos 0) +ℤ get_or ss j (pos 0)
      ≡ get_or priors (get_or ps j 0) (pos 0) +ℤ sent_to (get_or ps j 0) (take (suc j) ps) (take (suc j) ss)
  next_total totals j h l near inv =
      let p = get_or ps j 0 in
      let s = get_or ss j (pos 0) in
      let test : eqb p p ≡ true = eq-eqb p p refl in
      let more : sent_to p (take (suc j) ps) (take (suc j) ss) ≡ sent_to p (take j ps) (take j ss) +ℤ s =
      sent_more p ps ss j h l ∙ ap (λ z. sent_to p (take j ps) (take j ss) +ℤ z) (cond-true (eqb p p) s (pos 0) test) in
      ap (λ z. z +ℤ s) (inv p near) ∙ +ℤ_assoc (get_or priors p (pos 0)) (sent_to p (take j ps) (take j ss)) s
      ∙ ap (λ z. get_or priors p (pos 0) +ℤ z) (sym more)

  pub totalled_all : (totals : List ℤ)
      → length totals ≡ length priors
      → length ps ≡ length ss
      → TotalledUpTo priors ps ss totals (length ps)
      → totals ≡ totals_of priors ps ss
  unfolding totals_of
  totalled_all totals long same inv =
      let whole_ps : take (length ps) ps ≡ ps = take_all (length ps) ps (omega arith) in
      let whole_ss : take (length ps) ss ≡ ss = take_all (length ps) ss (omega arith) in
      fill_by_all (λ i. get_or priors i (pos 0) +ℤ sent_to i ps ss) totals (length priors) (pos 0) long
      (λ i h. rw (whole_ps, whole_ss) at (inv i h))

-- magnitudes of fine beliefs
pub fine_sizes : {X : Type 0} (exact : X → Type 0) (eighths : X → ℤ) (k : ℕ) (xs : List X)
    → Within exact eighths k xs
    → AllByRecursion (λ z. nat_abs z ≤ k) (map eighths xs)
fine_sizes exact eighths k xs fine =
    All-map (λ z. nat_abs z ≤ k) eighths xs (All-weaker (Fine exact eighths k) (λ x. nat_abs (eighths x) ≤ k) (λ x h. h.1) xs fine)

pub prior_size : {X : Type 0} (exact : X → Type 0) (eighths : X → ℤ) (k : ℕ) (xs : List X) (i : ℕ)
    → i < length xs
    → Within exact eighths k xs
    → nat_abs (get_or (map eighths xs) i (pos 0)) ≤ k
prior_size exact eighths k xs i h fine =
    All-get_or (λ z. nat_abs z ≤ k) (map eighths xs) i (pos 0) (rw (length-map xs eighths) h) (fine_sizes exact eighths k xs fine)

-- totals of fine beliefs are fine
pub totals_fine : {X : Type 0} (exact : X → Type 0) (eighths : X → ℤ) (k j : ℕ) (priors totals : List X) (ps : List ℕ) (sent : List X)
    → length totals ≡ length priors
    → AllBelow (λ i. degree ps i ≤ 16) (length priors)
    → Within exact eighths k priors
    → Within exact eighths k sent
    → AllByRecursion exact totals
    → TotalledUpTo (map eighths priors) ps (map eighths sent) (map eighths totals) j
    → Within exact eighths (17 * k) totals
totals_fine exact eighths k j priors totals ps sent long few low fine whole inv =
    all_from_every (Fine exact eighths (17 * k)) totals
    (λ i d from h.
    let near : i < length priors = omega arith in
    let value = sym (get_or-map eighths totals i d (pos 0) h) ∙ inv i (rw (length-map priors eighths) near) in (
      All-get_or exact totals i d h whole,
      rw value
          (totalled_size (map eighths priors) ps (map eighths sent) k j i (fine_sizes exact eighths k sent fine)
          (prior_size exact eighths k priors i near low) (few i near)),
    ))

-- no total passes what a confidence can be
pub totals_small : {X : Type 0} (exact : X → Type 0) (eighths : X → ℤ) (rule : Meaning) (xs : List X)
    → SoundMeaning rule
    → WithinTotals exact eighths rule xs
    → Within exact eighths (17 * 4095) xs
totals_small exact eighths rule xs sound low =
    All-weaker (Fine exact eighths (17 * rule.known)) (Fine exact eighths (17 * 4095)) (λ x h. (h.0, omega (arith, h.1, sound.known_high))) xs low
