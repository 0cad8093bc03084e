-- What is read off a run.
use Rattle.std.specs.Prelude.{◌≡◌, ℕ, List, [], ◌∷◌, ◌++◌}
use Rattle.decoders.specs.Six.{six_question}
use Rattle.ledger.specs.declared.line.Line.{Line}
use Rattle.ledger.specs.declared.line.Outcome.TheVariants.{Settled}
use Rattle.protocol.specs.Asking.{Verdict, judged}
use Rattle.protocol.specs.Calls.{Reply, refused, no_memory, begins, says, hears, turns, writes, closes}
use Rattle.protocol.specs.Runs.{Ask, Event}
use Rattle.protocol.specs.Reading.{Among, event, reached}
use Rattle.protocol.specs.Guarantee.{Block, SettledWith, corrected}
use Rattle.worked_cases.specs.Block.{offset, closing}
use Rattle.worked_cases.specs.declared.block.Ending.{Ending}

-- a call of the run was replied to so
abbrev pub replied : Ask → Reply → Event
replied a reply = event a.handle a.call reply

abbrev pub Replied : Ask → Reply → List Event → Type 0
Replied a reply log = Among (replied a reply) log

-- what close tells, as a line of the ledger has it
abbrev pub closes_as : Line → Reply
closes_as x = closes x.block x.side x.raw x.leak x.outcome

-- an end reached this round, and its close told this
pub record EndsAs (h : ℕ) (log : List Event) (e : Ending) : Type 0 where
  pub round : reached h log ≡ e.round
  pub closed : Replied (closing h) (closes_as e.told) log

-- settled in block 7, all six positions raw
abbrev pub settled_in : ℕ → ℕ → ℕ → Ending
settled_in round side leak =
    record { round = round; told = record { block = 7; side = side; raw = 6; leak = leak; outcome = Settled } }

-- Bob settled, and this is his corrected key
abbrev pub SettledAt : Block → List Event → List ℕ → Type 0
SettledAt block log key = (pattern : List ℕ) × SettledWith block log pattern × (key ≡ corrected block pattern)

-- the frames that were written, the newest first
abbrev pub frame_in : Reply → List (List ℕ)
frame_in (refused number place) = []
frame_in no_memory = []
frame_in begins = []
frame_in (says bytes buffer) = bytes ∷ []
frame_in (hears what) = []
frame_in (turns verdict pattern confidence) = []
frame_in (writes buffer) = []
frame_in (closes block side raw leak outcome) = []

abbrev pub frames_of : List Event → List (List ℕ)
frames_of [] = []
frames_of (e ∷ log) = frame_in e.reply ++ frames_of log

-- what one iteration makes of the difference 100 with every position raw, under a step and the cap 6
abbrev pub first_verdict : ℕ → Verdict
first_verdict step = (judged (offset 1) step 6 (six_question (1 ∷ 0 ∷ 0 ∷ []))).verdict
