-- Every answer of flipping is well formed.
use Rattle.std.specs.Prelude.{ℕ, zero, suc, ◌+◌, ◌-◌, ◌*◌, ◌<◌, ◌≤◌, Bool, List, map, length}
use Rattle.std.proofs.Common.{get_or, ◌∙◌, arith}
use Rattle.std.proofs.lemmas.Bool.{cases_eq}
use Rattle.std.proofs.lemmas.Grind.{common_steps}
use Rattle.std.proofs.lemmas.List.{length-set, length-map, get_or-map}
use Rattle.std.proofs.lemmas.List.FromFn.{length-map-range_with_len, get_or-map-range_with_len}
use Rattle.std.proofs.lemmas.List.Sums.{count_by-le-length}
use Rattle.codes.specs.Admission.{Admissible}
use Rattle.codes.specs.Code.{Code, checks}
use Rattle.codes.specs.Syndrome.{IsKey}
use Rattle.codes.proofs.Checks.{check-few}
use Rattle.decoders.specs.Decoding.{Formed}
use Rattle.decoders.specs.Fit.{check_fits}
use Rattle.decoders.specs.Question.{Question}
use Rattle.decoders.specs.declared.state.State.{State}
use Rattle.decoders.specs.declared.state.State.TheVariants.{Raw, Punctured, Known0, Known1}
use Rattle.flipping.specs.Flips.{holding, met, unmet, flipped, run, start_bit, limit_of, confidences, flipping_rule}

start_bit_small : (s : State) → start_bit s < 2
start_bit_small Raw = omega arith
start_bit_small Punctured = omega arith
start_bit_small Known0 = omega arith
start_bit_small Known1 = omega arith

-- a run starts from bits
pub start_key : (states : List State) → IsKey (length states) (map start_bit states)
start_key states =
    record {
      long = length-map states start_bit;
      bits = λ k l. omega (arith, get_or-map start_bit states k Raw 0 l, start_bit_small (get_or states k Raw));
    }

-- a flipped bit is a bit
pub flipped_key : (n : ℕ) (pattern : List ℕ) (i : ℕ) → IsKey n pattern → IsKey n (flipped pattern i)
flipped_key n pattern i key =
    record {
      long = length-set pattern i (1 - get_or pattern i 0) ∙ key.long;
      bits = λ k l. grind (arith, common_steps, key.long, key.bits k, cases_eq k i);
    }

run_key : (q : Question) (n left : ℕ) (pattern : List ℕ) → IsKey n pattern → IsKey n (run q left pattern)
unfolding run
run_key q n zero pattern key = key
run_key q n (suc left) pattern key = grind (arith, common_steps, run_key q n left, flipped_key n pattern)

-- a check holds a position at most 32 times
held_few : (code : Code) (test : ℕ → Bool) (k i : ℕ)
    → Admissible code.width (checks code) code.positions code.ends
    → k ≤ checks code
    → holding code test k i ≤ k * 32
held_few code test zero i sound h = omega arith
held_few code test (suc k) i sound h =
    let few = check-few code.width code.positions code.ends k sound (omega arith) in
    grind (arith, common_steps, held_few code test k i sound, few, count_by-le-length)

pub flipping_formed : (limit : ℕ) → Formed (flipping_rule limit)
unfolding flipping_rule confidences met
flipping_formed limit q sound =
    let p = run q (limit_of limit) (map start_bit q.states) in
    let n = q.code.width in
    let f : ℕ → ℕ = λ i. 16 + met q p i - unmet q p i in
    record {
      pattern = run_key q n (limit_of limit) (map start_bit q.states) (rw (← sound.states) (start_key q.states));
      confident = length-map-range_with_len f 0 n;
      bounded = λ i l.
          omega (
            arith,
            get_or-map-range_with_len f 0 n i i 0 l (omega arith),
            held_few q.code (check_fits q p) (checks q.code) i sound.matrix (omega arith),
            sound.matrix.sizes.0.3,
          );
    }
