-- A turn.
use Rattle.std.specs.Prelude.{ℕ, ◌+◌, ◌-◌, Bool, false, cond, not, ◌&&◌, List, ◌++◌, length, drop, sum, ◌==◌, nat_lt, slice_index}
use Rattle.codes.specs.Code.{Code, checks}
use Rattle.decoders.specs.Question.{Question}
use Rattle.decoders.specs.Decoding.{Rule, Room, room_for}
use Rattle.ledger.specs.declared.line.Outcome.{Outcome}
use Rattle.ledger.specs.declared.line.Outcome.TheVariants.{Open, Settled, Spent, Clashed}
use Rattle.protocol.specs.Counting.{list_of}
use Rattle.protocol.specs.State.{State, is_open}
use Rattle.protocol.specs.Asking.{Verdict, settled, clashed, spent, named, Judgement, judged, question_of}
use Rattle.protocol.specs.Calls.{Done, refused, turns}
use Rattle.protocol.specs.Hearing.{stays}
use Rattle.protocol.specs.declared.terms.Stage.{Stage}

-- the block's matrix, by number and sizes
abbrev pub is_matrix : State → Code → Bool
is_matrix s code =
    (code.number == s.terms.matrix) && code.width == s.terms.width
    && checks code == s.terms.checks && length code.positions == s.terms.entries

-- the buffers and the working memory suffice
abbrev pub roomy : Code → Room → List ℕ → List ℕ → ℕ → Bool
roomy code room pattern confidence words =
    not (nat_lt (length pattern) code.width) && not (nat_lt (length confidence) code.width)
    && not (nat_lt words (room_for room code))

abbrev pub question_now : State → Code → Question
question_now s code =
    question_of code s.terms.class s.kinds s.rounds s.own_syndrome s.their_syndrome s.key s.their_bits

abbrev pub judged_now : Rule → State → Code → Judgement
judged_now rule s code = judged rule s.terms.step (s.terms.cap - s.stage.named) (question_now s code)

-- a finish keeps the round
abbrev pub finished : Stage → Outcome → Stage
finished g outcome = record g { outcome = outcome }

-- positions named are disclosed in the next round, whose frame is yet to be heard
abbrev pub marked : ℕ → List ℕ → List ℕ → List ℕ
marked round map rounds = list_of (length rounds) (λ i. cond (slice_index map i == 1) round (slice_index rounds i))

unfoldable pub concluded : State → Outcome → List ℕ → State
concluded s outcome pattern = record s { stage = finished s.stage outcome; pattern = pattern }

unfoldable pub disclosing : State → List ℕ → List ℕ → State
disclosing s map pattern =
    record s {
      stage = record { round = s.stage.round + 1; named = s.stage.named + sum map; heard = false; outcome = Open };
      rounds = marked (s.stage.round + 1) map s.rounds;
      pattern = pattern;
    }

abbrev pub after : State → Verdict → List ℕ → State
after s settled pattern = concluded s Settled pattern
after s clashed pattern = concluded s Clashed pattern
after s spent pattern = concluded s Spent pattern
after s (named map) pattern = disclosing s map pattern

-- the first places of a buffer written, the rest as it was
abbrev pub fronted : List ℕ → List ℕ → List ℕ
fronted xs buffer = xs ++ drop (length xs) buffer

abbrev pub taken : State → Judgement → List ℕ → List ℕ → Done State
taken s j pattern confidence =
    record {
      held = after s j.verdict j.pattern;
      reply = turns j.verdict (fronted j.pattern pattern) (cond j.asked (fronted j.confidence confidence) confidence);
    }

unfoldable pub turn_done : Rule → State → Code → Room → List ℕ → List ℕ → ℕ → Done State
turn_done rule s code room pattern confidence words =
    cond (not (is_open s.stage.outcome)) (stays s (refused 17 0))
    (cond (not s.stage.heard) (stays s (refused 18 0))
    (cond (not (is_matrix s code)) (stays s (refused 19 0))
    (cond (roomy code room pattern confidence words) (taken s (judged_now rule s code) pattern confidence)
    (stays s (refused 20 0)))))
