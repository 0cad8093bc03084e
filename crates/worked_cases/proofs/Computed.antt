-- The runs, computed call by call.
use Rattle.std.proofs.Common.{◌≡◌, ℕ, List, [], ◌∷◌, ◌++◌, replicate, refl}
use Rattle.check_rules.specs.Offset.{offset_rule}
use Rattle.decoders.specs.Fit.{pattern_fits}
use Rattle.runs.specs.Bits.{packed_to, unpacked}
use Rattle.frames.specs.Format.{frame_bytes}
use Rattle.frames.specs.Reading.{right_byte, read_shape}
use Rattle.frames.specs.Writing.{map_of, gathered}
use Rattle.ledger.specs.declared.line.Outcome.TheVariants.{Settled}
use Rattle.propagation.specs.Check.{heard, answers}
use Rattle.propagation.specs.Course.{begun, renewed, course, fits_after, stops_at, propagated}
use Rattle.propagation.specs.Passes.{priors, sent_up_to, totals_of}
use Rattle.protocol.specs.Counting.{tally, list_of}
use Rattle.protocol.specs.Plan.{plan_fits, wrong_key}
use Rattle.protocol.specs.State.{begun as just_opened}
use Rattle.protocol.specs.Asking.{settled, named, question_of, judged}
use Rattle.protocol.specs.Calls.{begins, says, hears, turns, writes, closes}
use Rattle.protocol.specs.Hearing.{spread, heard_syndrome, heard_values, hear_done}
use Rattle.protocol.specs.Turning.{concluded, disclosing, turn_done}
use Rattle.protocol.specs.Steps.{open_done, say_done, key_done}
use Rattle.protocol.specs.Runs.{Event, log_of}
use Rattle.protocol.specs.declared.terms.Hearing.TheVariants.{Fresh}
use Rattle.worked_cases.specs.Six.{alice_key}
use Rattle.worked_cases.specs.Block.{offset, alice, bob, opening, saying, hearing, turning, writing, closing, from_alice, from_bob, alice_discloses, bob_discloses, two_rounds, bob_key, two_round_log, far_key, from_far, one_round_log}
use Rattle.worked_cases.specs.Seen.{replied, first_verdict}

-- both ends opened and said round 0
abbrev pub began : List ℕ → List ℕ → List ℕ → List Event
began alice_key bob_key second =
    replied (saying bob 0) (says second (second ++ 0 ∷ []))
    ∷ replied (saying alice 0) (says from_alice (from_alice ++ 0 ∷ []))
    ∷ replied (opening bob bob_key) begins ∷ replied (opening alice alice_key) begins ∷ []

-- the run in two rounds, with the key that both write
abbrev pub twice : List ℕ → List ℕ → List ℕ → List Event
twice alice_key bob_key key =
    replied (closing bob) (closes 7 1 6 4 Settled) ∷ replied (closing alice) (closes 7 0 6 4 Settled)
    ∷ replied (writing bob) (writes key) ∷ replied (writing alice) (writes key)
    ∷ replied (turning bob) (turns settled (0 ∷ 0 ∷ 0 ∷ 1 ∷ 0 ∷ 0 ∷ []) (64 ∷ 64 ∷ 64 ∷ 820 ∷ 44 ∷ 44 ∷ []))
    ∷ replied (turning alice) (turns settled (0 ∷ 0 ∷ 0 ∷ 1 ∷ 0 ∷ 0 ∷ []) (64 ∷ 64 ∷ 64 ∷ 820 ∷ 44 ∷ 44 ∷ []))
    ∷ replied (hearing bob alice_discloses) (hears Fresh) ∷ replied (hearing alice bob_discloses) (hears Fresh)
    ∷ replied (saying bob 1) (says bob_discloses bob_discloses)
    ∷ replied (saying alice 1) (says alice_discloses alice_discloses)
    ∷ replied (turning bob) (turns (named (0 ∷ 0 ∷ 0 ∷ 1 ∷ 0 ∷ 0 ∷ [])) (replicate 6 0) (24 ∷ 24 ∷ 64 ∷ 4 ∷ 44 ∷ 44 ∷ []))
    ∷ replied (turning alice) (turns (named (0 ∷ 0 ∷ 0 ∷ 1 ∷ 0 ∷ 0 ∷ [])) (replicate 6 0) (24 ∷ 24 ∷ 64 ∷ 4 ∷ 44 ∷ 44 ∷ []))
    ∷ replied (hearing bob from_alice) (hears Fresh) ∷ replied (hearing alice from_bob) (hears Fresh)
    ∷ began alice_key bob_key from_bob

-- the run in one round
abbrev pub once : List Event
once =
    replied (closing bob) (closes 7 1 6 3 Settled) ∷ replied (closing alice) (closes 7 0 6 3 Settled)
    ∷ replied (writing bob) (writes (1 ∷ 1 ∷ 1 ∷ 0 ∷ 1 ∷ 0 ∷ [])) ∷ replied (writing alice) (writes alice_key)
    ∷ replied (turning bob) (turns settled (0 ∷ 1 ∷ 0 ∷ 0 ∷ 0 ∷ 0 ∷ []) (24 ∷ 16 ∷ 24 ∷ 4 ∷ 4 ∷ 44 ∷ []))
    ∷ replied (turning alice) (turns settled (0 ∷ 1 ∷ 0 ∷ 0 ∷ 0 ∷ 0 ∷ []) (24 ∷ 16 ∷ 24 ∷ 4 ∷ 4 ∷ 44 ∷ []))
    ∷ replied (hearing bob from_alice) (hears Fresh) ∷ replied (hearing alice from_far) (hears Fresh)
    ∷ began alice_key far_key from_far

-- each definition that the runs use is opened here, and nowhere else
pub record Computed : Type 0 where
  pub both_rounds : two_round_log ≡ twice alice_key bob_key alice_key
  pub shifted :
      log_of (offset 1) (two_rounds (0 ∷ 1 ∷ 1 ∷ 1 ∷ 1 ∷ 1 ∷ []) (0 ∷ 1 ∷ 1 ∷ 0 ∷ 1 ∷ 1 ∷ []))
      ≡ twice (0 ∷ 1 ∷ 1 ∷ 1 ∷ 1 ∷ 1 ∷ []) (0 ∷ 1 ∷ 1 ∷ 0 ∷ 1 ∷ 1 ∷ []) (0 ∷ 1 ∷ 1 ∷ 1 ∷ 1 ∷ 1 ∷ [])
  pub one_round : one_round_log ≡ once
  pub step_one : first_verdict 1 ≡ named (0 ∷ 0 ∷ 0 ∷ 1 ∷ 0 ∷ 0 ∷ [])
  pub step_two : first_verdict 2 ≡ named (1 ∷ 0 ∷ 0 ∷ 1 ∷ 0 ∷ 0 ∷ [])

pub computed : Computed
unfolding open_done plan_fits wrong_key just_opened tally list_of say_done frame_bytes packed_to unpacked right_byte read_shape map_of gathered spread heard_syndrome heard_values hear_done question_of judged concluded disclosing turn_done key_done offset_rule pattern_fits heard answers begun renewed course fits_after stops_at propagated priors sent_up_to totals_of
computed = record { both_rounds = refl; shifted = refl; one_round = refl; step_one = refl; step_two = refl }
