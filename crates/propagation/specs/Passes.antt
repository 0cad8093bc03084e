-- The two passes of an iteration: every check sends anew, then every total is made anew.
use Rattle.std.specs.Prelude.{ℕ, zero, suc, cond, List, [], ◌∷◌, ◌++◌, map, length, ℤ, pos, ◌+ℤ◌, neg_ℤ, ◌==◌, slice_index, slice_index_or}
use Rattle.std.specs.List.{range_with_len, between}
use Rattle.codes.specs.Code.{start, end, check_in}
use Rattle.check_rules.specs.Meaning.{Meaning}
use Rattle.decoders.specs.declared.state.State.{State}
use Rattle.decoders.specs.declared.state.State.TheVariants.{Raw, Punctured, Known0, Known1}
use Rattle.propagation.specs.Check.{heard, answers}

-- what is believed of a position before any check has spoken, given the beliefs in a raw and in a known bit
abbrev pub prior_by : ℕ → ℕ → State → ℤ
prior_by raw known Raw = pos raw
prior_by raw known Punctured = pos 0
prior_by raw known Known0 = pos known
prior_by raw known Known1 = neg_ℤ (pos known)

abbrev pub prior : Meaning → ℕ → State → ℤ
prior rule class state = prior_by (rule.raw class) rule.known state

unfoldable pub priors : Meaning → ℕ → List State → List ℤ
priors rule class states = map (prior rule class) states

-- what check k sends: it has heard the totals, less what it last sent itself
abbrev pub sent_by : Meaning → List ℕ → List ℕ → List ℕ → List ℤ → List ℤ → ℕ → List ℤ
sent_by rule positions ends difference totals sent k =
    answers rule (slice_index difference k)
    (heard rule.known totals (check_in positions ends k) (between (start ends k) (end ends k) sent))

-- what the first k checks send, one after the other
unfoldable pub sent_up_to : Meaning → List ℕ → List ℕ → List ℕ → List ℤ → List ℤ → ℕ → List ℤ
sent_up_to rule positions ends difference totals sent zero = []
sent_up_to rule positions ends difference totals sent (suc k) =
    sent_up_to rule positions ends difference totals sent k ++ sent_by rule positions ends difference totals sent k

-- the sum of all that is sent to position i
abbrev pub sent_to : ℕ → List ℕ → List ℤ → ℤ
sent_to i [] sent = pos 0
sent_to i (p ∷ positions) [] = pos 0
sent_to i (p ∷ positions) (s ∷ sent) = cond (p == i) s (pos 0) +ℤ sent_to i positions sent

-- each total is the prior plus all sent to it
unfoldable pub totals_of : List ℤ → List ℕ → List ℤ → List ℤ
totals_of priors positions sent =
    map (λ i. slice_index_or priors i (pos 0) +ℤ sent_to i positions sent) (range_with_len 0 (length priors))
