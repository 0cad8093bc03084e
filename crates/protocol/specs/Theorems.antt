-- What else holds of the calls.
use Rattle.std.specs.Prelude.{◌≡◌, ℕ, ◌≤◌, true, ◌⊎◌, List, ◌∷◌, sum, ◌≢◌, slice_index}
use Rattle.decoders.specs.Question.{Question}
use Rattle.decoders.specs.Decoding.{Rule}
use Rattle.protocol.specs.State.{Held}
use Rattle.protocol.specs.Asking.{named, judged, share, unknown_at}
use Rattle.protocol.specs.Calls.{Call, refused, say_call, says}
use Rattle.protocol.specs.Steps.{step_of}
use Rattle.protocol.specs.Runs.{Ask, held_after, log_of}
use Rattle.protocol.specs.Reading.{Among, event}
use Rattle.protocol.specs.Guarantee.{Block, Premises}

-- a turn that names k names exactly k positions, none of them known, and no more than are left of the cap
abbrev pub NamesExactly : Type 0
NamesExactly =
    (rule : Rule) (step left : ℕ) (q : Question) (map : List ℕ) → (judged rule step left q).verdict ≡ named map
    → (sum map ≡ share step left q) × (sum map ≤ left) × ((i : ℕ) → slice_index map i ≡ 1 → unknown_at q i ≡ true)

-- one call has one refusal at the most, and a refusal leaves the end as it was
abbrev pub RefusalKeeps : Type 0
RefusalKeeps =
    (rule : Rule) (x : Held) (call : Call) (number place : ℕ) → (step_of rule x call).reply ≡ refused number place
    → ((step_of rule x call).held ≡ x)
    × ((other where' : ℕ) → (step_of rule x call).reply ≡ refused other where' → (other ≡ number) × (where' ≡ place))

-- a call of one end leaves every other end as it was
abbrev pub OthersKeep : Type 0
OthersKeep =
    (rule : Rule) (a : Ask) (asks : List Ask) (h : ℕ) → (a.handle ≢ h) → held_after rule (a ∷ asks) h ≡ held_after rule asks h

-- the frames that an end of a block writes for a round are the same bytes whenever it writes them
abbrev pub SameFrames : Type 0
SameFrames =
    (rule : Rule) (block : Block) (asks : List Ask) → Premises block (log_of rule asks)
    → (h : ℕ) → (h ≡ block.alice) ⊎ (h ≡ block.bob)
    → (r : ℕ) (first first' second second' bytes again : List ℕ)
    → Among (event h (say_call r first) (says bytes first')) (log_of rule asks)
    → Among (event h (say_call r second) (says again second')) (log_of rule asks)
    → bytes ≡ again
