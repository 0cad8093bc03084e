-- Bit flipping.
use Rattle.std.specs.Prelude.{ℕ, zero, suc, ◌+◌, ◌-◌, min, max, Bool, cond, not, List, map, ◌==◌, nat_lt, slice_index, slice_index_or, slice_set}
use Rattle.std.specs.List.{range_with_len}
use Rattle.codes.specs.Code.{Code, check, checks}
use Rattle.codes.specs.Admission.{degree}
use Rattle.decoders.specs.Question.{Question}
use Rattle.decoders.specs.Decoding.{Rule, Room}
use Rattle.decoders.specs.Fit.{is_known, check_fits, pattern_fits}
use Rattle.decoders.specs.declared.state.State.{State}
use Rattle.decoders.specs.declared.state.State.TheVariants.{Raw, Punctured, Known0, Known1}

-- how many of the first m checks pass the test and hold position i, which a check names once at most
abbrev pub holding : Code → (ℕ → Bool) → ℕ → ℕ → ℕ
holding code test zero i = 0
holding code test (suc k) i = holding code test k i + cond (test k) (degree (check code k) i) 0

-- check k's parity over the pattern is not its difference bit
abbrev pub misses : Question → List ℕ → ℕ → Bool
misses q pattern k = not (check_fits q pattern k)

-- the checks of position i that the pattern meets, and those that it does not
unfoldable pub met : Question → List ℕ → ℕ → ℕ
met q pattern i = holding q.code (check_fits q pattern) (checks q.code) i

unfoldable pub unmet : Question → List ℕ → ℕ → ℕ
unmet q pattern i = holding q.code (misses q pattern) (checks q.code) i

-- a known position has no say in what is flipped
abbrev pub votes : List State → (ℕ → ℕ) → ℕ → ℕ
votes states count i = cond (is_known (slice_index_or states i Raw)) 0 (count i)

-- the most votes below n, and the first place that has them
abbrev pub most : (ℕ → ℕ) → ℕ → ℕ
most vote zero = 0
most vote (suc n) = max (most vote n) (vote n)

abbrev pub leader : (ℕ → ℕ) → ℕ → ℕ
leader vote zero = 0
leader vote (suc n) = cond (nat_lt (most vote n) (vote n)) n (leader vote n)

abbrev pub flipped : List ℕ → ℕ → List ℕ
flipped pattern i = slice_set pattern i (1 - slice_index pattern i)

-- at most so many flips from a pattern: none where it fits, or where no position that is not known lies in an unmet check
unfoldable pub run : Question → ℕ → List ℕ → List ℕ
run q zero pattern = pattern
run q (suc left) pattern =
    cond (pattern_fits q pattern) pattern
    (cond (most (votes q.states (unmet q pattern)) q.code.width == 0) pattern
    (run q left (flipped pattern (leader (votes q.states (unmet q pattern)) q.code.width))))

-- 0, or the known bit
abbrev pub start_bit : State → ℕ
start_bit Raw = 0
start_bit Punctured = 0
start_bit Known0 = 0
start_bit Known1 = 1

-- a limit outside 1 to 2,048 counts as the nearer end
abbrev pub limit_of : ℕ → ℕ
limit_of limit = min (max limit 1) 2048

-- 16 plus met less unmet checks of each position
unfoldable pub confidences : Question → List ℕ → List ℕ
confidences q pattern = map (λ i. 16 + met q pattern i - unmet q pattern i) (range_with_len 0 q.code.width)

unfoldable pub flipping_rule : ℕ → Rule
flipping_rule limit q =
    record {
      pattern = run q (limit_of limit) (map start_bit q.states);
      confidence = confidences q (run q (limit_of limit) (map start_bit q.states));
    }

abbrev pub flipping_room : Room
flipping_room n m entries = n + m
