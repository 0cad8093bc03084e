-- How many checks hold a position: met and unmet ones together are its degree.
use Rattle.std.proofs.Common.{◌≡◌, ℕ, zero, suc, ◌+◌, ◌-◌, ◌<◌, ◌≤◌, Bool, true, false, cond, not, eqb}
use Rattle.std.proofs.Common.{List, ◌++◌, length, take, sym, refl, ap, ◌∙◌, add-one, arith}
use Rattle.std.specs.List.{between}
use Rattle.std.proofs.lemmas.Grind.{common_steps}
use Rattle.std.proofs.lemmas.List.{take-append-drop, take-take, take_all}
use Rattle.std.proofs.lemmas.Slice.{between_is}
use Rattle.std.proofs.lemmas.List.Sums.{sum_by-append, sum_by-take-le, count_by-le-length}
use Rattle.codes.specs.Code.{Code, start, end, check, checks}
use Rattle.codes.specs.Admission.{Admissible, degree}
use Rattle.flipping.specs.Flips.{holding}

take_split : (xs : List ℕ) (s e : ℕ) → s ≤ e → take e xs ≡ take s xs ++ between s e xs
take_split xs s e h =
    let whole = take-append-drop s (take e xs) in
    let front = take-take s e xs h in
    let back = between_is xs s e in
    cc

module _ (code : Code) where
  pub holding_split : (test : ℕ → Bool) (k i : ℕ)
      → holding code test k i + holding code (λ j. not (test j)) k i ≡ holding code (λ _. true) k i
  holding_split test zero i = refl
  holding_split test (suc k) i = grind (arith, common_steps, holding_split test k i)

  module _ (sound : Admissible code.width (checks code) code.positions code.ends) where
    degree-check : (k i : ℕ)
        → k < checks code
        → degree (take (end code.ends k) code.positions) i ≡ degree (take (start code.ends k) code.positions) i + degree (check code k) i
    degree-check k i h =
        let low : start code.ends k ≤ end code.ends k = omega (arith, (sound.checks k h).0) in
        rw (take_split code.positions (start code.ends k) (end code.ends k) low)
        (sum_by-append (λ p. cond (eqb p i) 1 0) (take (start code.ends k) code.positions) (check code k))

    every_check : (k i : ℕ) → k ≤ checks code → holding code (λ _. true) k i ≡ degree (take (start code.ends k) code.positions) i
    every_check zero i h = refl
    every_check (suc k) i h = omega (arith, every_check k i (omega arith), degree-check k i (omega arith))

    -- no position is held more often than it is named
    pub holding_le : (test : ℕ → Bool) (k i : ℕ) → k ≤ checks code → holding code test k i ≤ degree code.positions i
    holding_le test k i h =
        omega
        (arith, holding_split test k i, every_check k i h, sum_by-take-le (λ p. cond (eqb p i) 1 0) code.positions (start code.ends k))

    -- all checks together are the whole run
    pub holding-whole : (test : ℕ → Bool) (i : ℕ)
        → holding code test (checks code) i + holding code (λ j. not (test j)) (checks code) i ≡ degree code.positions i
    holding-whole test i =
        let m = checks code in
        let some = sound.sizes.0.2 in
        let last : m - 1 < m = omega arith in
        let closed = (sound.checks (m - 1) last).2 (omega arith) in
        let more : suc (m - 1) ≡ m = omega arith in
        let ended : start code.ends m ≡ end code.ends (m - 1) = ap (start code.ends) (sym more) in
        let all : length code.positions ≤ start code.ends m = omega (arith, closed, ended) in
        let whole = take_all (start code.ends m) code.positions all in
        holding_split test m i ∙ every_check m i (omega arith) ∙ ap (λ xs. degree xs i) whole

pub degree_le_length : (ps : List ℕ) (i : ℕ) → degree ps i ≤ length ps
degree_le_length ps i = count_by-le-length (λ p. eqb p i) ps

-- one check more
pub holding_more : (code : Code) (test : ℕ → Bool) (k i : ℕ)
    → test k ≡ true
    → holding code test k i + degree (check code k) i ≡ holding code test (k + 1) i
holding_more code test k i t = rw (add-one, t) refl

pub holding_skip : (code : Code) (test : ℕ → Bool) (k i : ℕ)
    → test k ≡ false
    → holding code test k i ≡ holding code test (k + 1) i
holding_skip code test k i t = grind (arith, common_steps)
