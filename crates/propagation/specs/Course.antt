-- Belief propagation, from a question to its answer.
use Rattle.std.specs.Prelude.{ℕ, zero, suc, ◌+◌, min, max, Bool, cond, List, map, length, replicate, ℤ, pos, unsigned_abs}
use Rattle.codes.specs.Code.{checks}
use Rattle.codes.specs.Tells.{sign_bit}
use Rattle.check_rules.specs.Meaning.{Meaning}
use Rattle.decoders.specs.Decoding.{Rule, Room}
use Rattle.decoders.specs.Fit.{pattern_fits}
use Rattle.decoders.specs.Question.{Question, Answer}
use Rattle.propagation.specs.Passes.{priors, sent_up_to, totals_of}

pub record Beliefs : Type 0 where
  pub totals : List ℤ
  pub sent : List ℤ

-- what lent numbers stand for
abbrev pub beliefs_of : {X : Type 0} → (X → ℤ) → List X → List X → Beliefs
beliefs_of eighths totals sent = record { totals = map eighths totals; sent = map eighths sent }

-- totals start at the priors, sent beliefs at 0
unfoldable pub begun : Meaning → Question → Beliefs
begun rule q =
    record {
      totals = priors rule q.class q.states;
      sent = replicate (length q.code.positions) (pos 0);
    }

abbrev pub sent_anew : Meaning → Question → Beliefs → List ℤ
sent_anew rule q b =
    sent_up_to rule q.code.positions q.code.ends q.difference b.totals b.sent (checks q.code)

-- one iteration: every check sends, then each total is the prior plus all sent to it
unfoldable pub renewed : Meaning → Question → Beliefs → Beliefs
renewed rule q b =
    record {
      totals = totals_of (priors rule q.class q.states) q.code.positions (sent_anew rule q b);
      sent = sent_anew rule q b;
    }

-- after i iterations
unfoldable pub course : Meaning → Question → ℕ → Beliefs
course rule q zero = begun rule q
course rule q (suc i) = renewed rule q (course rule q i)

-- the pattern bit is 1 where the total is negative
abbrev pub pattern_of : List ℤ → List ℕ
pattern_of totals = map sign_bit totals

unfoldable pub fits_after : Meaning → Question → ℕ → Bool
fits_after rule q i = pattern_fits q (pattern_of (course rule q i).totals)

-- how many iterations are done after i, with so many left: it stops at the first that fits
unfoldable pub stops_at : Meaning → Question → ℕ → ℕ → ℕ
stops_at rule q zero i = i
stops_at rule q (suc left) i = cond (fits_after rule q (i + 1)) (i + 1) (stops_at rule q left (i + 1))

-- a limit out of range is the nearer end
abbrev pub limited : ℕ → ℕ
limited limit = min (max limit 1) 64

abbrev pub iterations : Meaning → ℕ → Question → ℕ
iterations rule limit q = stops_at rule q (limited limit) 0

abbrev pub answer_from : List ℤ → Answer
answer_from totals = record { pattern = pattern_of totals; confidence = map unsigned_abs totals }

unfoldable pub propagated : Meaning → ℕ → Rule
propagated rule limit q = answer_from (course rule q (iterations rule limit q)).totals

-- a word for each position and for each entry
abbrev pub propagation_room : Room
propagation_room n m entries = n + entries
