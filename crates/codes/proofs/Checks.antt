-- Where an entry lies: the checks of a sound run do not overlap.
use Rattle.std.proofs.Common.{◌≡◌, ℕ, zero, suc, ◌+◌, ◌-◌, ◌<◌, ◌≤◌, List, length, get_or, ap, ⊎_elim, add-one, arith}
use Rattle.std.proofs.lemmas.Bool.{cases_order, cases_eq}
use Rattle.std.proofs.lemmas.List.Edits.{length-between, get_or-between}
use Rattle.codes.specs.Places.{AllBelow}
use Rattle.codes.specs.Code.{start, end, check_in}
use Rattle.codes.specs.Admission.{Admissible, Filled, Rises, SoundCheck}

module _ (ends : List ℕ) (filled : AllBelow (Filled ends) (length ends)) where
  -- a check ends before any later one begins
  ends_rise : (k j : ℕ) → k < j → j < length ends → end ends k ≤ start ends j
  ends_rise k zero l h = absurd (omega arith)
  ends_rise k (suc j) l h =
      ⊎_elim (λ e. rw e (omega arith))
      (λ ne. let low : k < j = omega arith in let near : j < length ends = omega arith in
      omega (arith, ends_rise k j low near, filled j near))
      (cases_eq k j)

  same_check : (k l j : ℕ) → k < length ends → l < length ends
      → start ends k ≤ j → j < end ends k → start ends l ≤ j → j < end ends l → k ≡ l
  same_check k l j hk hl a b c d =
      ⊎_elim (λ e. e)
      (⊎_elim (λ less. absurd (omega (arith, ends_rise k l less hl))) (λ more. absurd (omega (arith, ends_rise l k more hk))))
      (cases_order k l)

  -- entry j of check k: it begins the check, or it is above the entry before it
  pub rises_first : (ps : List ℕ) (k j : ℕ) → k < length ends → start ends k ≡ j → Rises ps ends j
  rises_first ps k j h e l (hl, a, b) =
      let s : start ends k ≤ j = omega arith in
      let t : j < end ends k = omega (arith, filled k h) in
      let u : start ends l ≤ j = omega arith in
      let same = same_check k l j h hl s t u b in
      absurd (omega (arith, e, a, ap (start ends) same))

  pub rises_next : (ps : List ℕ) (j : ℕ) → get_or ps (j - 1) 0 < get_or ps j 0 → Rises ps ends j
  rises_next ps j h l f = h

-- where a check ends before the run does, the next one begins
pub next_check : (ps ends : List ℕ) (k j : ℕ)
    → AllBelow (SoundCheck ps ends) (length ends)
    → k < length ends
    → end ends k ≡ j
    → j < length ps
    → (k + 1 < length ends) × (start ends (k + 1) ≡ j) × (j < end ends (k + 1))
next_check ps ends k j sound h e l =
    let more : k + 1 < length ends =
    ⊎_elim (λ last. absurd (omega (arith, (sound k h).2 last))) (λ ne. omega arith) (cases_eq (k + 1) (length ends)) in
    let begins : start ends (k + 1) ≡ j = rw add-one e in
    (more, begins, omega (arith, (sound (k + 1) more).0, begins))

-- every check lies within the run
pub ends-within : (ps ends : List ℕ) (k : ℕ)
    → AllBelow (SoundCheck ps ends) (length ends)
    → k < length ends
    → end ends k ≤ length ps
ends-within ps ends k sound h =
    ⊎_elim (λ last. omega (arith, (sound k h).2 last))
    (λ ne.
    let j : ℕ = length ends - 1 in
    let low : k < j = omega arith in
    let near : j < length ends = omega arith in
    let last : j + 1 ≡ length ends = omega arith in
    omega (arith, ends_rise ends (λ i l. (sound i l).0) k j low near, (sound j near).0, (sound j near).2 last))
    (cases_eq (k + 1) (length ends))

-- the positions of a check of a matrix are within its width, and at most 32
module _ (n : ℕ) (ps ends : List ℕ) (k : ℕ) (sound : Admissible n (length ends) ps ends) (h : k < length ends) where
  inside : end ends k ≤ length ps
  inside = ends-within ps ends k sound.checks h

  pub check-length : length (check_in ps ends k) ≡ end ends k - start ends k
  check-length = length-between ps (start ends k) (end ends k) inside

  pub check-few : length (check_in ps ends k) ≤ 32
  check-few = omega (arith, check-length, (sound.checks k h).1)

  pub check-within : AllBelow (λ i. get_or (check_in ps ends k) i 0 < n) (length (check_in ps ends k))
  check-within i l =
      let near : start ends k + i < end ends k = omega (arith, check-length) in
      rw (get_or-between ps (start ends k) (end ends k) i 0 near) (sound.entries (start ends k + i) (omega (arith, inside))).0
