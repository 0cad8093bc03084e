-- When a pattern fits a question.
use Rattle.std.specs.Prelude.{ℕ, zero, suc, ◌≤◌, Bool, true, false, ◌&&◌, List, length, ◌==◌, slice_index, slice_index_or}
use Rattle.codes.specs.Code.{Code, check_in, checks}
use Rattle.codes.specs.Of.{code_of}
use Rattle.codes.specs.Syndrome.{parity}
use Rattle.decoders.specs.Question.{Question}
use Rattle.decoders.specs.declared.inquiry.Inquiry.{Inquiry}
use Rattle.decoders.specs.declared.state.State.{State}
use Rattle.decoders.specs.declared.state.State.TheVariants.{Raw, Punctured, Known0, Known1}

-- the test holds at every place below n
abbrev pub all_below : (ℕ → Bool) → ℕ → Bool
all_below test zero = true
all_below test (suc n) = all_below test n && test n

abbrev pub is_known : State → Bool
is_known Raw = false
is_known Punctured = false
is_known Known0 = true
is_known Known1 = true

-- a known position has its known bit
abbrev pub agrees : State → ℕ → Bool
agrees Raw b = true
agrees Punctured b = true
agrees Known0 b = b == 0
agrees Known1 b = b == 1

-- check k's parity over the pattern is its difference bit
abbrev pub meets : List ℕ → List ℕ → List ℕ → List ℕ → ℕ → Bool
meets positions ends difference pattern k = parity pattern (check_in positions ends k) == slice_index difference k

-- every check that has a difference bit is met
abbrev pub checks_met : Code → List ℕ → List ℕ → Bool
checks_met code difference pattern = all_below (meets code.positions code.ends difference pattern) (length difference)

abbrev pub check_fits : Question → List ℕ → ℕ → Bool
check_fits q pattern k = meets q.code.positions q.code.ends q.difference pattern k

abbrev pub agrees_at : List State → List ℕ → ℕ → Bool
agrees_at states pattern i = agrees (slice_index_or states i Raw) (slice_index pattern i)

abbrev pub place_fits : Question → List ℕ → ℕ → Bool
place_fits q pattern i = agrees_at q.states pattern i

unfoldable pub pattern_fits : Question → List ℕ → Bool
pattern_fits q pattern = all_below (check_fits q pattern) (checks q.code) && all_below (place_fits q pattern) q.code.width

-- the runs that the test reads are long enough
pub record LongRuns (i : Inquiry) (pattern : List ℕ) : Type 0 where
  pub checked : checks (code_of i.matrix.now) ≤ length i.difference.now
  pub stated : i.matrix.now.width ≤ length i.states.now
  pub patterned : i.matrix.now.width ≤ length pattern
