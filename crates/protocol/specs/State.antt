-- What an end holds.
use Rattle.std.specs.Prelude.{ℕ, zero, suc, ◌+◌, ◌-◌, ◌%◌, Bool, true, false, cond, List, length, replicate, ◌==◌, slice_index}
use Rattle.codes.specs.Code.{Code, checks}
use Rattle.codes.specs.Syndrome.{syndrome}
use Rattle.frames.specs.Shape.{FrameShape, syndrome_frame}
use Rattle.frames.specs.Writing.{disclosure_of, gathered}
use Rattle.ledger.specs.declared.line.Outcome.{Outcome}
use Rattle.ledger.specs.declared.line.Outcome.TheVariants.{Open, Settled, Spent, Clashed}
use Rattle.protocol.specs.Plan.{Plan, has_kind, count_kind}
use Rattle.protocol.specs.declared.terms.Terms.{Terms}
use Rattle.protocol.specs.declared.terms.Stage.{Stage}

-- rounds: for each position the round in which it was disclosed, 0 where it is not
-- their_syndrome, their_bits: what was heard of the other end, 0 where nothing was
pub record State : Type 0 where
  pub terms : Terms
  pub stage : Stage
  pub kinds : List ℕ
  pub key : List ℕ
  pub own_syndrome : List ℕ
  pub rounds : List ℕ
  pub their_syndrome : List ℕ
  pub their_bits : List ℕ
  pub pattern : List ℕ

pub data Held : Type 0 where
  idle : Held
  opened : State → Held

abbrev pub terms_of : Plan → Code → Terms
terms_of p code =
    record {
      block = p.block;
      side = p.side;
      matrix = p.matrix;
      width = code.width;
      checks = checks code;
      entries = length code.positions;
      class = p.class;
      step = p.step;
      cap = p.cap;
    }

-- an end that has just opened
unfoldable pub begun : Plan → Code → List ℕ → State
begun p code key =
    record {
      terms = terms_of p code;
      stage = record { round = 0; named = 0; heard = false; outcome = Open };
      kinds = p.kinds;
      key = key;
      own_syndrome = syndrome code key;
      rounds = replicate code.width 0;
      their_syndrome = replicate (checks code) 0;
      their_bits = replicate code.width 0;
      pattern = replicate code.width 0;
    }

-- the frame of a round: the syndrome in round 0, then what was named in it
abbrev pub frame_of : State → ℕ → FrameShape
frame_of s zero = syndrome_frame s.terms.side s.terms.block s.own_syndrome
frame_of s (suc r) = disclosure_of s.terms.side s.terms.block (suc r) s.rounds s.key

-- checks less punctured positions, plus the positions named
abbrev pub leak_of : State → ℕ
leak_of s = (s.terms.checks - count_kind 1 s.kinds) + s.stage.named

-- the key as this end has it: Alice her own, Bob his plus the pattern modulo 2
abbrev pub agreed_bit : State → ℕ → ℕ
agreed_bit s i = cond (s.terms.side == 0) (slice_index s.key i) ((slice_index s.key i + slice_index s.pattern i) % 2)

-- the bits at raw positions, in their order
abbrev pub raw_bits : List ℕ → (ℕ → ℕ) → List ℕ
raw_bits kinds bit = gathered (has_kind 0 kinds) bit (length kinds)

abbrev pub is_open : Outcome → Bool
is_open Open = true
is_open Settled = false
is_open Spent = false
is_open Clashed = false
