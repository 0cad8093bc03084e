-- What each call does to an end.
use Rattle.std.specs.Prelude.{ℕ, Bool, cond, List, length, Some, None, Option, nat_lt}
use Rattle.codes.specs.Code.{Code}
use Rattle.decoders.specs.Decoding.{Rule}
use Rattle.ledger.specs.Lines.{is_settled}
use Rattle.frames.specs.Format.{frame_bytes}
use Rattle.frames.specs.Writing.{laid}
use Rattle.protocol.specs.Plan.{Plan, plan_fits, wrong_key, count_kind}
use Rattle.protocol.specs.State.{State, Held, idle, opened, begun, frame_of, leak_of, agreed_bit, raw_bits}
use Rattle.protocol.specs.Calls.{Call, Reply, Done, open_call, say_call, hear_call, turn_call, key_call, close_call, refused, no_memory, begins, says, writes, closes}
use Rattle.protocol.specs.Hearing.{stays, hear_done}
use Rattle.protocol.specs.Turning.{turn_done}

abbrev pub open_key : Plan → Code → List ℕ → Bool → Option ℕ → Done Held
open_key p code key memory (Some i) = record { held = idle; reply = refused 9 i }
open_key p code key memory None =
    cond memory (record { held = opened (begun p code key); reply = begins }) (record { held = idle; reply = no_memory })

unfoldable pub open_done : Plan → Code → List ℕ → Bool → Done Held
open_done p code key memory =
    cond (plan_fits p code) (open_key p code key memory (wrong_key code.width p.kinds key))
    (record { held = idle; reply = refused 8 0 })

abbrev pub say_bytes : State → List ℕ → List ℕ → Done State
say_bytes s bytes buffer =
    cond (nat_lt (length buffer) (length bytes)) (stays s (refused 12 (length bytes))) (stays s (says bytes (laid bytes buffer)))

unfoldable pub say_done : State → ℕ → List ℕ → Done State
say_done s r buffer =
    cond (nat_lt s.stage.round r) (stays s (refused 11 0)) (say_bytes s (frame_bytes (frame_of s r)) buffer)

abbrev pub key_written : State → List ℕ → List ℕ → Done State
key_written s bits buffer =
    cond (nat_lt (length buffer) (length bits)) (stays s (refused 12 (length bits))) (stays s (writes (laid bits buffer)))

unfoldable pub key_done : State → List ℕ → Done State
key_done s buffer =
    cond (is_settled s.stage.outcome) (key_written s (raw_bits s.kinds (agreed_bit s)) buffer) (stays s (refused 21 0))

abbrev pub told : State → Reply
told s = closes s.terms.block s.terms.side (count_kind 0 s.kinds) (leak_of s) s.stage.outcome

abbrev pub still_open : Done State → Done Held
still_open d = record { held = opened d.held; reply = d.reply }

-- one call of one end, with a decoder that means the rule
abbrev pub step_of : Rule → Held → Call → Done Held
step_of rule idle (open_call p code key memory) = open_done p code key memory
step_of rule idle (say_call r buffer) = record { held = idle; reply = refused 10 0 }
step_of rule idle (hear_call bytes) = record { held = idle; reply = refused 10 0 }
step_of rule idle (turn_call code room pattern confidence words) = record { held = idle; reply = refused 10 0 }
step_of rule idle (key_call buffer) = record { held = idle; reply = refused 10 0 }
step_of rule idle close_call = record { held = idle; reply = refused 10 0 }
step_of rule (opened s) (open_call p code key memory) = record { held = opened s; reply = refused 7 0 }
step_of rule (opened s) (say_call r buffer) = still_open (say_done s r buffer)
step_of rule (opened s) (hear_call bytes) = still_open (hear_done s bytes)
step_of rule (opened s) (turn_call code room pattern confidence words) =
    still_open (turn_done rule s code room pattern confidence words)
step_of rule (opened s) (key_call buffer) = still_open (key_done s buffer)
step_of rule (opened s) close_call = record { held = idle; reply = told s }
