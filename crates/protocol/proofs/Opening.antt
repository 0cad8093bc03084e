-- What an accepted open says of its plan and key, and that a companion word keeps it accepted.
use Rattle.std.proofs.Common.{◌≡◌, ℕ, ◌-◌, ◌<◌, ◌≤◌, max, Bool, true, ◌&&◌, List, length, get_or, replicate, None, ⊎_elim, arith}
use Rattle.std.proofs.lemmas.Grind.{common_steps}
use Rattle.std.proofs.lemmas.Bool.{cases_order, cases_Bool, and_parts, and_from, or_cases, or_left, or_right, not_from_false, ltb-true, leb-true, eqb-true, lt-ltb, eq-eqb}
use Rattle.codes.specs.Code.{Code, checks}
use Rattle.codes.specs.Syndrome.{IsKey, syndrome, added}
use Rattle.codes.proofs.Parities.{syndrome-added, syndrome-length, syndrome_at}
use Rattle.frames.proofs.Firsts.{none_wrong, all_right}
use Rattle.protocol.specs.Plan.{Plan, has_kind, count_kind, plan_fits, key_place, wrong_key}
use Rattle.protocol.specs.State.{opened, begun}
use Rattle.protocol.specs.Calls.{begins}
use Rattle.protocol.specs.Steps.{open_done}
use Rattle.protocol.proofs.Words.{added-zeros, added-bit, added-within, length-added}
use Rattle.protocol.proofs.Shift.{shift_state}

-- a key of n bits that is 0 at shortened positions
pub record FitKey (n : ℕ) (kinds key : List ℕ) : Type 0 where
  pub is_key : IsKey n key
  pub shortened : (i : ℕ) → i < n → has_kind 2 kinds i ≡ true → get_or key i 0 ≡ 0

module _ (n : ℕ) (kinds key : List ℕ) where
  place_parts : (i : ℕ) → key_place n kinds key i ≡ true
      → (i < n) × (i < length key) × (get_or key i 0 < 2) × (has_kind 2 kinds i ≡ true → get_or key i 0 ≡ 0)
  place_parts i e = grind (arith, common_steps, and_parts, get_or, ltb-true, eqb-true, or_cases)

  pub fit_key : wrong_key n kinds key ≡ None → FitKey n kinds key
  unfolding wrong_key
  fit_key e =
      let all = all_right (key_place n kinds key) (max n (length key)) e in
      let part : (i : ℕ) → i < max n (length key) → _ = λ i h. place_parts i (all i h) in
      let long : length key ≡ n =
      ⊎_elim (λ e. e)
      (⊎_elim (λ less. absurd (omega (arith, (part (length key) (omega arith)).1))) (λ more. absurd (omega (arith, (part n (omega arith)).0))))
      (cases_order (length key) n) in
      record {
        is_key = record { long = long; bits = λ i h. (part i (omega arith)).2 };
        shortened = λ i h. (part i (omega arith)).3;
      }

  pub key_fits : FitKey n kinds key → wrong_key n kinds key ≡ None
  unfolding wrong_key
  key_fits k = grind (arith, common_steps, none_wrong, and_from, lt-ltb, get_or, or_right, eq-eqb, or_left, not_from_false, cases_Bool)

pub open_parts : (p : Plan) (c : Code) (key : List ℕ) (memory : Bool) → (open_done p c key memory).reply ≡ begins
    → (plan_fits p c ≡ true) × (wrong_key c.width p.kinds key ≡ None) × (memory ≡ true)
unfolding open_done
open_parts p c key memory = grind (arith, common_steps)

pub open_begins : (p : Plan) (c : Code) (key : List ℕ) (memory : Bool)
    → plan_fits p c ≡ true → wrong_key c.width p.kinds key ≡ None → memory ≡ true
    → open_done p c key memory ≡ record { held = opened (begun p c key); reply = begins }
unfolding open_done
open_begins p c key memory e f g = rw (e, f, g)

pub syndrome-bit : (code : Code) (key : List ℕ) (k : ℕ) → k < checks code → get_or (syndrome code key) k 0 < 2
syndrome-bit code key k h = omega (arith, syndrome_at code key k h)

-- a word of syndrome 0 does not change a key's syndrome
pub syndrome-same : (code : Code) (key word : List ℕ) → length word ≤ length key
    → syndrome code word ≡ replicate (checks code) 0 → syndrome code (added key word) ≡ syndrome code key
syndrome-same code key word l e = grind (arith, common_steps, syndrome-added, added-zeros, syndrome-length, syndrome-bit)

module _ (p : Plan) (c : Code) (key word : List ℕ) (fit : FitKey c.width p.kinds key) (w : IsKey c.width word)
    (evenly : syndrome c word ≡ replicate (checks c) 0)
    (shortened : (i : ℕ) → has_kind 2 p.kinds i ≡ true → get_or word i 0 ≡ 0) where
  pub begun_shift : begun p c (added key word) ≡ shift_state word (begun p c key)
  unfolding begun
  begun_shift = grind (arith, common_steps, syndrome-same)

  pub shifted_fits : FitKey c.width p.kinds (added key word)
  shifted_fits = grind (arith, common_steps, length-added, added-bit, added-within)

-- what a plan that fits says
parts : (a b c d e f g : Bool) → (a && b && c && d && e && f && g) ≡ true
    → (a ≡ true) × (b ≡ true) × (c ≡ true) × (d ≡ true) × (e ≡ true) × (f ≡ true) × (g ≡ true)
parts a b c d e f g h = grind (arith, common_steps, and_parts)

-- matrix number; kinds of the width, each below 3; counts; step; cap; side; class
pub record FitPlan (p : Plan) (c : Code) : Type 0 where
  pub matrix : p.matrix ≡ c.number
  pub kinds : length p.kinds ≡ c.width
  pub raw : 1 ≤ count_kind 0 p.kinds
  pub punctured : count_kind 1 p.kinds ≤ checks c
  pub step_low : 1 ≤ p.step
  pub step_high : p.step ≤ c.width
  pub cap : p.cap ≤ c.width - count_kind 2 p.kinds
  pub side : p.side < 2
  pub class_low : 1 ≤ p.class
  pub class_high : p.class ≤ 12

pub fit_plan : (p : Plan) (c : Code) → plan_fits p c ≡ true → FitPlan p c
unfolding plan_fits
fit_plan p c e = grind (arith, common_steps, parts, and_parts, eqb-true, leb-true, ltb-true)
