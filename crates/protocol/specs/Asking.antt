-- What a turn asks, and what it decides of the answer.
use Rattle.std.specs.Prelude.{ℕ, ◌+◌, ◌%◌, min, Bool, true, false, cond, not, ◌&&◌, ◌||◌, List, map, ◌==◌, nat_lt, slice_index, slice_index_or}
use Rattle.std.specs.List.{range_with_len}
use Rattle.codes.specs.Code.{Code, checks}
use Rattle.decoders.specs.Question.{Question, Answer}
use Rattle.decoders.specs.Fit.{pattern_fits, all_below, is_known}
use Rattle.decoders.specs.Decoding.{Rule}
use Rattle.decoders.specs.declared.state.State.{State as Knowledge}
use Rattle.decoders.specs.declared.state.State.TheVariants.{Raw, Punctured, Known0, Known1}
use Rattle.frames.specs.Writing.{map_of}
use Rattle.protocol.specs.Counting.{tally, list_of}
use Rattle.protocol.specs.Plan.{has_kind}

abbrev pub known : ℕ → Knowledge
known bit = cond (bit == 0) Known0 Known1

-- a shortened position is known 0, a disclosed one as the sum of both ends' bits, any other is of its kind
abbrev pub state_at : List ℕ → List ℕ → List ℕ → List ℕ → ℕ → Knowledge
state_at kinds rounds ours theirs i =
    cond (has_kind 2 kinds i) Known0
    (cond (slice_index rounds i == 0) (cond (has_kind 1 kinds i) Punctured Raw) (known ((slice_index ours i + slice_index theirs i) % 2)))

-- both ends' syndromes added as difference bits
unfoldable pub question_of : Code → ℕ → List ℕ → List ℕ → List ℕ → List ℕ → List ℕ → List ℕ → Question
question_of code class kinds rounds our_syndrome their_syndrome ours theirs =
    record {
      code = code;
      difference = list_of (checks code) (λ k. (slice_index our_syndrome k + slice_index their_syndrome k) % 2);
      states = map (state_at kinds rounds ours theirs) (range_with_len 0 code.width);
      class = class;
    }

abbrev pub known_at : Question → ℕ → Bool
known_at q i = is_known (slice_index_or q.states i Raw)

abbrev pub unknown_at : Question → ℕ → Bool
unknown_at q i = not (known_at q i)

abbrev pub known_bit : Knowledge → ℕ
known_bit Raw = 0
known_bit Punctured = 0
known_bit Known0 = 0
known_bit Known1 = 1

-- the known bits as a pattern
unfoldable pub known_pattern : Question → List ℕ
known_pattern q = list_of q.code.width (λ i. known_bit (slice_index_or q.states i Raw))

-- position j is less sure than i: lower confidence, or equal and lower
abbrev pub less_sure : List ℕ → ℕ → ℕ → Bool
less_sure confidence j i =
    nat_lt (slice_index confidence j) (slice_index confidence i) || (slice_index confidence j == slice_index confidence i && nat_lt j i)

-- position i is among the k not-known positions that are least sure
abbrev pub chosen : Question → List ℕ → ℕ → ℕ → Bool
chosen q confidence k i =
    unknown_at q i && nat_lt (tally (λ j. unknown_at q j && less_sure confidence j i) q.code.width) k

pub data Verdict : Type 0 where
  settled : Verdict
  clashed : Verdict
  spent : Verdict
  -- the map of the positions that are named
  named : List ℕ → Verdict

-- the verdict, with the pattern and, where the decoder was asked, its confidences
pub record Judgement : Type 0 where
  pub verdict : Verdict
  pub pattern : List ℕ
  pub asked : Bool
  pub confidence : List ℕ

-- how many positions a misfit names: at most the step, what is left of the cap, and the not-known
abbrev pub share : ℕ → ℕ → Question → ℕ
share step left q = min step (min left (tally (unknown_at q) q.code.width))

abbrev pub naming : Question → List ℕ → ℕ → Verdict
naming q confidence k = cond (k == 0) spent (named (map_of (chosen q confidence k) q.code.width))

abbrev pub judge_known : Question → Judgement
judge_known q =
    record {
      verdict = cond (pattern_fits q (known_pattern q)) settled clashed;
      pattern = known_pattern q;
      asked = false;
      confidence = known_pattern q;
    }

abbrev pub judge_answer : Question → Answer → ℕ → ℕ → Judgement
judge_answer q a step left =
    record {
      verdict = cond (pattern_fits q a.pattern) settled (naming q a.confidence (share step left q));
      pattern = a.pattern;
      asked = true;
      confidence = a.confidence;
    }

-- where every position is known the decoder is not asked
unfoldable pub judged : Rule → ℕ → ℕ → Question → Judgement
judged rule step left q =
    cond (all_below (known_at q) q.code.width) (judge_known q) (judge_answer q (rule q) step left)
