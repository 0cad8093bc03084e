-- Runs: lists of calls, each of one end. The newest call stands first.
use Rattle.std.specs.Prelude.{ℕ, cond, List, [], ◌∷◌, ◌==◌}
use Rattle.decoders.specs.Decoding.{Rule}
use Rattle.protocol.specs.State.{Held, idle}
use Rattle.protocol.specs.Calls.{Call, Reply}
use Rattle.protocol.specs.Steps.{step_of}

-- a call of the end with this handle
pub record Ask : Type 0 where
  pub handle : ℕ
  pub call : Call

-- a call with what it replied
pub record Event : Type 0 where
  pub handle : ℕ
  pub call : Call
  pub reply : Reply

-- what each end holds after the calls; before any, no end is open
abbrev pub held_after : Rule → List Ask → ℕ → Held
held_after rule [] handle = idle
held_after rule (a ∷ asks) handle =
    cond (a.handle == handle) (step_of rule (held_after rule asks a.handle) a.call).held (held_after rule asks handle)

-- the calls with their replies
abbrev pub log_of : Rule → List Ask → List Event
log_of rule [] = []
log_of rule (a ∷ asks) =
    record { handle = a.handle; call = a.call; reply = (step_of rule (held_after rule asks a.handle) a.call).reply }
    ∷ log_of rule asks
