-- The guarantee, over every run, of each block alone.
use Rattle.std.specs.Prelude.{◌≡◌, ℕ, ◌+◌, ◌-◌, ◌^◌, ◌<◌, ◌≤◌, Bool, true, cond, ◌||◌, List, ◌++◌, map, length, take, drop, replicate, ◌==◌, slice_index}
use Rattle.codes.specs.Code.{Code, checks}
use Rattle.codes.specs.Admission.{Admissible}
use Rattle.codes.specs.Syndrome.{IsKey, syndrome, added}
use Rattle.decoders.specs.Decoding.{Rule, Room, Formed}
use Rattle.frames.specs.Writing.{laid}
use Rattle.ledger.specs.declared.line.Outcome.TheVariants.{Settled}
use Rattle.protocol.specs.Counting.{tally}
use Rattle.protocol.specs.Plan.{Plan, with_side, has_kind, count_kind}
use Rattle.protocol.specs.State.{State, opened, leak_of, raw_bits}
use Rattle.protocol.specs.Asking.{Verdict, settled}
use Rattle.protocol.specs.Calls.{Call, Reply, open_call, say_call, hear_call, turn_call, key_call, close_call, refused, no_memory, begins, says, hears, turns, writes, closes}
use Rattle.protocol.specs.Runs.{Ask, Event, held_after, log_of}
use Rattle.protocol.specs.Reading.{Among, event, reached, disclosed_in, discloses, wrote, opens, is_begin, Delivered}

-- a block: what both its ends are opened with, and its two handles
pub record Block : Type 0 where
  pub plan : Plan
  pub code : Code
  pub alice : ℕ
  pub bob : ℕ
  pub alice_key : List ℕ
  pub bob_key : List ℕ

-- every accepted open of this end has the block's plan with this side, its matrix and this key
abbrev pub OpensAs : Block → ℕ → ℕ → List ℕ → List Event → Type 0
OpensAs block h side key log =
    (p : Plan) (c : Code) (k : List ℕ) (memory : Bool) → Among (event h (open_call p c k memory) begins) log
    → (p ≡ with_side side block.plan) × (c ≡ block.code) × (k ≡ key)

-- every accepted turn of this end gets the block's matrix
abbrev pub TurnsWith : Block → ℕ → List Event → Type 0
TurnsWith block h log =
    (c : Code) (room : Room) (p f : List ℕ) (w : ℕ) (v : Verdict) (p' f' : List ℕ)
    → Among (event h (turn_call c room p f w) (turns v p' f')) log → c ≡ block.code

pub record Premises (block : Block) (log : List Event) : Type 0 where
  pub matrix :
      Admissible block.code.width (checks block.code) block.code.positions block.code.ends
  pub number : block.plan.block < 2 ^ 32
  pub apart : block.alice ≡ block.bob → ⊥
  pub alice_opens : OpensAs block block.alice 0 block.alice_key log
  pub bob_opens : OpensAs block block.bob 1 block.bob_key log
  pub alice_once : opens block.alice log ≤ 1
  pub bob_once : opens block.bob log ≤ 1
  pub alice_turns : TurnsWith block block.alice log
  pub bob_turns : TurnsWith block block.bob log
  pub alice_hears : Delivered block.alice block.bob log
  pub bob_hears : Delivered block.bob block.alice log

-- position i was disclosed by either end
abbrev pub is_public : Block → List Event → ℕ → Bool
is_public block log i = discloses block.alice i log || discloses block.bob i log

-- the pattern with which Bob settled: the front of the buffer of that turn
abbrev pub SettledWith : Block → List Event → List ℕ → Type 0
SettledWith block log pattern =
    (c : Code) × (room : Room) × (p : List ℕ) × (f : List ℕ) × (w : ℕ) × (p' : List ℕ) × (f' : List ℕ)
    × Among (event block.bob (turn_call c room p f w) (turns settled p' f')) log
    × (pattern ≡ take block.code.width p')

-- Bob's corrected key
abbrev pub corrected : Block → List ℕ → List ℕ
corrected block pattern = added block.bob_key pattern

-- Agreement: in each round that both ends reach they disclose the same positions; once Bob has settled, his corrected key has
-- Alice's syndrome and her bits at every position that either end disclosed, and its raw bits are what his key call writes.
pub record Agreement (block : Block) (log : List Event) : Type 0 where
  pub places : (r : ℕ) → 1 ≤ r → r ≤ reached block.alice log → r ≤ reached block.bob log
      → disclosed_in block.alice r log ≡ disclosed_in block.bob r log
  pub meets : (pattern : List ℕ) → SettledWith block log pattern
      → syndrome block.code (corrected block pattern) ≡ syndrome block.code block.alice_key
  pub bits : (pattern : List ℕ) → SettledWith block log pattern → (i : ℕ) → is_public block log i ≡ true
      → slice_index (corrected block pattern) i ≡ slice_index block.alice_key i
  pub key_writes : (pattern : List ℕ) → SettledWith block log pattern
      → (buffer buffer' : List ℕ) → Among (event block.bob (key_call buffer) (writes buffer')) log
      → buffer' ≡ laid (raw_bits block.plan.kinds (λ i. slice_index (corrected block pattern) i)) buffer

-- a companion word: syndrome 0, and 0 at shortened and at disclosed positions
pub record Companion (block : Block) (log : List Event) (word : List ℕ) : Type 0 where
  pub bits : IsKey block.code.width word
  pub evenly : syndrome block.code word ≡ replicate (checks block.code) 0
  pub shortened : (i : ℕ) → has_kind 2 block.plan.kinds i ≡ true → slice_index word i ≡ 0
  pub public : (i : ℕ) → is_public block log i ≡ true → slice_index word i ≡ 0

abbrev pub of_block : Block → ℕ → Bool
of_block block h = h == block.alice || h == block.bob

-- the word is added to the keys of the block's accepted opens; every other argument stays
abbrev pub shift_key : Reply → List ℕ → List ℕ → List ℕ
shift_key reply word key = cond (is_begin reply) (added key word) key

abbrev pub shift_call : Reply → List ℕ → Call → Call
shift_call reply word (open_call p c k memory) = open_call p c (shift_key reply word k) memory
shift_call reply word (say_call r buffer) = say_call r buffer
shift_call reply word (hear_call bytes) = hear_call bytes
shift_call reply word (turn_call c room p f w) = turn_call c room p f w
shift_call reply word (key_call buffer) = key_call buffer
shift_call reply word close_call = close_call

abbrev pub shift_ask : Block → List ℕ → Event → Ask
shift_ask block word e =
    record { handle = e.handle; call = cond (of_block block e.handle) (shift_call e.reply word e.call) e.call }

-- what key writes changes by the word's raw bits alone; every other reply stays
abbrev pub add_front : List ℕ → List ℕ → List ℕ
add_front raw buffer = added (take (length raw) buffer) raw ++ drop (length raw) buffer

abbrev pub shift_reply : List ℕ → Reply → Reply
shift_reply raw (refused number place) = refused number place
shift_reply raw no_memory = no_memory
shift_reply raw begins = begins
shift_reply raw (says bytes buffer) = says bytes buffer
shift_reply raw (hears what) = hears what
shift_reply raw (turns verdict pattern confidence) = turns verdict pattern confidence
shift_reply raw (writes buffer) = writes (add_front raw buffer)
shift_reply raw (closes block side count leak outcome) = closes block side count leak outcome

abbrev pub shift_event : Block → List ℕ → Event → Event
shift_event block word e =
    record {
      handle = e.handle;
      call = (shift_ask block word e).call;
      reply =
          cond (of_block block e.handle) (shift_reply (raw_bits block.plan.kinds (λ i. slice_index word i)) e.reply) e.reply;
    }

-- Hiding: with a companion word added, the same calls get the same replies but for the raw bits that key writes
abbrev pub Hiding : Rule → Block → List Event → Type 0
Hiding rule block log =
    (word : List ℕ) → Companion block log word
    → log_of rule (map (shift_ask block word) log) ≡ map (shift_event block word) log

-- the other end's frames carry so many different positions
abbrev pub carried : Block → ℕ → List Event → ℕ
carried block h log = tally (λ i. wrote h block.code.width i log) block.code.width

abbrev pub account : Block → ℕ → List Event → ℕ
account block other log =
    (checks block.code - count_kind 1 block.plan.kinds) + carried block other log

-- Account: the leak of a settled end, which close tells or would tell, is checks less punctured positions plus the different
-- positions in the maps of all frames that the other end wrote
pub record Account (rule : Rule) (block : Block) (asks : List Ask) (h other : ℕ) : Type 0 where
  pub told : (number side raw leak : ℕ)
      → Among (event h close_call (closes number side raw leak Settled)) (log_of rule asks)
      → leak ≡ account block other (log_of rule asks)
  pub held : (s : State) → held_after rule asks h ≡ opened s → s.stage.outcome ≡ Settled
      → leak_of s ≡ account block other (log_of rule asks)

pub record Guarantee (rule : Rule) (block : Block) (asks : List Ask) : Type 0 where
  pub agreement : Agreement block (log_of rule asks)
  pub hiding : Hiding rule block (log_of rule asks)
  pub alice_account : Account rule block asks block.alice block.bob
  pub bob_account : Account rule block asks block.bob block.alice

-- for every decoder, every run and each block in it
abbrev pub Guaranteed : Type 0
Guaranteed =
    (rule : Rule) → Formed rule → (block : Block) (asks : List Ask) → Premises block (log_of rule asks)
    → Guarantee rule block asks
