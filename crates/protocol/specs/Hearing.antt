-- Hearing a frame.
use Rattle.std.specs.Prelude.{ℕ, Bool, true, cond, not, ◌&&◌, ◌||◌, List, length, Ok, Err, Result, ◌==◌, nat_lt, slice_index}
use Rattle.frames.specs.Shape.{FrameShape, syndrome_frame, disclosure_frame}
use Rattle.frames.specs.Numbers.{frame_told}
use Rattle.frames.specs.Reading.{read_shape}
use Rattle.frames.specs.Writing.{map_of, gathered, in_round}
use Rattle.frames.specs.declared.refusal.FrameRefusal.{FrameRefusal}
use Rattle.protocol.specs.Counting.{tally, same, list_of}
use Rattle.protocol.specs.State.{State}
use Rattle.protocol.specs.Calls.{Done, Reply, refused, hears}
use Rattle.protocol.specs.declared.terms.Stage.{Stage}
use Rattle.protocol.specs.declared.terms.Hearing.TheVariants.{Fresh, Repeat}

-- the present round, and its frame has not been heard
abbrev pub awaits : State → ℕ → Bool
awaits s r = r == s.stage.round && not s.stage.heard

abbrev pub stage_heard : Stage → Stage
stage_heard g = record g { heard = true }

-- the values of a round, each at its position; elsewhere what was there
unfoldable pub spread : (ℕ → Bool) → List ℕ → List ℕ → List ℕ
spread test values before =
    list_of (length before) (λ i. cond (test i) (slice_index values (tally test i)) (slice_index before i))

-- the state once the present round's frame is heard
unfoldable pub heard_syndrome : State → List ℕ → State
heard_syndrome s bits = record s { stage = stage_heard s.stage; their_syndrome = bits }

unfoldable pub heard_values : State → ℕ → List ℕ → State
heard_values s r values =
    record s { stage = stage_heard s.stage; their_bits = spread (in_round r s.rounds) values s.their_bits }

abbrev pub stays : State → Reply → Done State
stays s reply = record { held = s; reply = reply }

-- a frame of another block or of this end's own side
abbrev pub foreign : State → ℕ → ℕ → Bool
foreign s side block = not (block == s.terms.block) || side == s.terms.side

abbrev pub hear_shape : State → FrameShape → Done State
hear_shape s (syndrome_frame side block bits) =
    cond (foreign s side block) (stays s (refused 14 0))
    (cond (awaits s 0) (record { held = heard_syndrome s bits; reply = hears Fresh })
    (cond (same bits s.their_syndrome) (stays s (hears Repeat)) (stays s (refused 16 0))))
hear_shape s (disclosure_frame side block r map values) =
    cond (foreign s side block) (stays s (refused 14 0))
    (cond (nat_lt s.stage.round r) (stays s (refused 15 0))
    (cond (same map (map_of (in_round r s.rounds) (length s.rounds)))
    (cond (awaits s r) (record { held = heard_values s r values; reply = hears Fresh })
    (cond (same values (gathered (in_round r s.rounds) (λ i. slice_index s.their_bits i) (length s.rounds)))
    (stays s (hears Repeat)) (stays s (refused 16 r))))
    (stays s (refused 16 r))))

-- bytes that are no frame are 13 at the first byte at fault
abbrev pub hear_read : State → Result FrameShape FrameRefusal → Done State
hear_read s (Ok shape) = hear_shape s shape
hear_read s (Err fault) = stays s (refused 13 (frame_told fault).place)

unfoldable pub hear_done : State → List ℕ → Done State
hear_done s bytes = hear_read s (read_shape s.terms.width s.terms.checks bytes)
