-- The calls of an end and what each may reply.
use Rattle.std.specs.Prelude.{ℕ, Bool, List}
use Rattle.codes.specs.Code.{Code}
use Rattle.decoders.specs.Decoding.{Room}
use Rattle.ledger.specs.declared.line.Outcome.{Outcome}
use Rattle.protocol.specs.Plan.{Plan}
use Rattle.protocol.specs.Asking.{Verdict}
use Rattle.protocol.specs.declared.terms.Hearing.{Hearing}

pub data Call : Type 0 where
  -- plan, matrix, key, and whether there is memory
  open_call : Plan → Code → List ℕ → Bool → Call
  -- round, and what the buffer holds
  say_call : ℕ → List ℕ → Call
  -- the bytes
  hear_call : List ℕ → Call
  -- matrix, the decoder's need, what the pattern and confidence buffers hold, and how many working words are lent
  turn_call : Code → Room → List ℕ → List ℕ → ℕ → Call
  -- what the buffer holds
  key_call : List ℕ → Call
  close_call : Call

-- A refusal leaves every buffer as it was. The others tell what the buffers hold then.
pub data Reply : Type 0 where
  -- number and place
  refused : ℕ → ℕ → Reply
  no_memory : Reply
  begins : Reply
  -- the frame's bytes; the buffer
  says : List ℕ → List ℕ → Reply
  hears : Hearing → Reply
  -- the verdict; the pattern and the confidence buffer
  turns : Verdict → List ℕ → List ℕ → Reply
  -- the buffer
  writes : List ℕ → Reply
  -- block, side, raw count, leak, outcome
  closes : ℕ → ℕ → ℕ → ℕ → Outcome → Reply

-- what a call does to its end
pub record Done (H : Type 0) : Type 0 where
  pub held : H
  pub reply : Reply
