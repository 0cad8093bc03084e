-- Block 7 on the six positions, all raw, 5 percent: the calls of both ends, the newest first.
use Rattle.std.specs.Prelude.{ℕ, true, List, [], ◌∷◌, replicate}
use Rattle.check_rules.specs.Offset.{offset_rule}
use Rattle.decoders.specs.Decoding.{Rule}
use Rattle.propagation.specs.Course.{propagated, propagation_room}
use Rattle.protocol.specs.Plan.{Plan, with_side}
use Rattle.protocol.specs.Calls.{Call, open_call, say_call, hear_call, turn_call, key_call, close_call}
use Rattle.protocol.specs.Runs.{Ask, Event, log_of}
use Rattle.protocol.specs.Guarantee.{Block}
use Rattle.codes.specs.Six.{six_positions}
use Rattle.worked_cases.specs.Six.{alice_key}

-- propagation under the offset rule
abbrev pub offset : ℕ → Rule
offset limit = propagated offset_rule limit

-- step 1, cap 6
abbrev pub six_plan : Plan
six_plan =
    record {
      block = 7;
      side = 0;
      matrix = 1;
      kinds = replicate 6 0;
      class = 5;
      step = 1;
      cap = 6;
    }

-- the handles of the two ends, which are their sides too
abbrev pub alice : ℕ
alice = 0

abbrev pub bob : ℕ
bob = 1

abbrev pub six_block : List ℕ → Block
six_block bob_key =
    record {
      plan = six_plan;
      code = six_positions;
      alice = alice;
      bob = bob;
      alice_key = alice_key;
      bob_key = bob_key;
    }

abbrev pub ask : ℕ → Call → Ask
ask handle call = record { handle = handle; call = call }

abbrev pub opening : ℕ → List ℕ → Ask
opening side key = ask side (open_call (with_side side six_plan) six_positions key true)

abbrev pub saying : ℕ → ℕ → Ask
saying h round = ask h (say_call round (replicate 10 0))

abbrev pub hearing : ℕ → List ℕ → Ask
hearing h bytes = ask h (hear_call bytes)

-- with the working words that propagation needs here
abbrev pub turning : ℕ → Ask
turning h = ask h (turn_call six_positions propagation_room (replicate 6 0) (replicate 6 0) 15)

abbrev pub writing : ℕ → Ask
writing h = ask h (key_call (replicate 6 0))

abbrev pub closing : ℕ → Ask
closing h = ask h close_call

-- both ends open
abbrev pub begin : List ℕ → List ℕ → List Ask
begin alice_key bob_key = opening bob bob_key ∷ opening alice alice_key ∷ []

-- both say the round, hear what the other said, and turn
abbrev pub exchange : ℕ → List ℕ → List ℕ → List Ask → List Ask
exchange round from_alice from_bob before =
    turning bob ∷ turning alice
    ∷ hearing bob from_alice ∷ hearing alice from_bob
    ∷ saying bob round ∷ saying alice round ∷ before

-- both take their keys and close
abbrev pub finish : List Ask → List Ask
finish before = closing bob ∷ closing alice ∷ writing bob ∷ writing alice ∷ before

-- the syndromes 010 and 110, then the bits 1 and 0 of position 3
abbrev pub from_alice : List ℕ
from_alice = 0x01 ∷ 0x00 ∷ 0x00 ∷ 0x00 ∷ 0x00 ∷ 0x07 ∷ 0x00 ∷ 0x00 ∷ 0x40 ∷ []

abbrev pub from_bob : List ℕ
from_bob = 0x01 ∷ 0x01 ∷ 0x00 ∷ 0x00 ∷ 0x00 ∷ 0x07 ∷ 0x00 ∷ 0x00 ∷ 0xc0 ∷ []

abbrev pub alice_discloses : List ℕ
alice_discloses = 0x02 ∷ 0x00 ∷ 0x00 ∷ 0x00 ∷ 0x00 ∷ 0x07 ∷ 0x00 ∷ 0x01 ∷ 0x10 ∷ 0x80 ∷ []

abbrev pub bob_discloses : List ℕ
bob_discloses = 0x02 ∷ 0x01 ∷ 0x00 ∷ 0x00 ∷ 0x00 ∷ 0x07 ∷ 0x00 ∷ 0x01 ∷ 0x10 ∷ 0x00 ∷ []

-- a run in two rounds
abbrev pub two_rounds : List ℕ → List ℕ → List Ask
two_rounds alice_key bob_key =
    finish (exchange 1 alice_discloses bob_discloses (exchange 0 from_alice from_bob (begin alice_key bob_key)))

-- Bob's key differs from Alice's at position 3
abbrev pub bob_key : List ℕ
bob_key = 1 ∷ 0 ∷ 1 ∷ 0 ∷ 0 ∷ 0 ∷ []

-- what is called and replied where propagation stops after one iteration
abbrev pub two_round_log : List Event
two_round_log = log_of (offset 1) (two_rounds alice_key bob_key)

-- another key of Bob's, whose syndrome is 100
abbrev pub far_key : List ℕ
far_key = 1 ∷ 0 ∷ 1 ∷ 0 ∷ 1 ∷ 0 ∷ []

abbrev pub from_far : List ℕ
from_far = 0x01 ∷ 0x01 ∷ 0x00 ∷ 0x00 ∷ 0x00 ∷ 0x07 ∷ 0x00 ∷ 0x00 ∷ 0x80 ∷ []

-- with up to 64 iterations
abbrev pub one_round_log : List Event
one_round_log = log_of (offset 64) (finish (exchange 0 from_alice from_far (begin alice_key far_key)))
