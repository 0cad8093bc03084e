-- What a list of calls and replies says of an end: the rounds it reached, what it disclosed, the frames it wrote.
use Rattle.std.specs.Prelude.{◌≡◌, ℕ, ◌+◌, Bool, true, false, cond, ◌&&◌, ◌||◌, List, [], ◌∷◌, ◌==◌, slice_index}
use Rattle.frames.specs.Reading.{kind_in, map_in}
use Rattle.protocol.specs.Asking.{Verdict, named}
use Rattle.protocol.specs.Calls.{Call, Reply, say_call, hear_call, begins, says, hears, turns}
use Rattle.protocol.specs.Runs.{Event}
use Rattle.protocol.specs.declared.terms.Hearing.{Hearing}

-- an event of the list
pub data Among (e : Event) : List Event → Type 0 where
  here : {log : List Event} → Among e (e ∷ log)
  there : {f : Event} {log : List Event} → Among e log → Among e (f ∷ log)

abbrev pub event : ℕ → Call → Reply → Event
event handle call reply = record { handle = handle; call = call; reply = reply }

-- the map that a reply names, if it is a turn's that names
abbrev pub verdict_map : Verdict → List ℕ
verdict_map (named map) = map
verdict_map _ = []

abbrev pub named_map : Reply → List ℕ
named_map (turns verdict pattern confidence) = verdict_map verdict
named_map _ = []

abbrev pub is_naming : Verdict → Bool
is_naming (named map) = true
is_naming _ = false

abbrev pub names : Reply → Bool
names (turns verdict pattern confidence) = is_naming verdict
names _ = false

abbrev pub names_at : ℕ → Event → Bool
names_at h e = e.handle == h && names e.reply

-- the round that an end has reached: how many of its turns answered Named
abbrev pub reached : ℕ → List Event → ℕ
reached h [] = 0
reached h (e ∷ log) = reached h log + cond (names_at h e) 1 0

-- what it disclosed in round r: what its r-th such turn named
abbrev pub disclosed_in : ℕ → ℕ → List Event → List ℕ
disclosed_in h r [] = []
disclosed_in h r (e ∷ log) = cond (names_at h e && r == reached h log + 1) (named_map e.reply) (disclosed_in h r log)

-- whether it disclosed position i in any round
abbrev pub discloses : ℕ → ℕ → List Event → Bool
discloses h i [] = false
discloses h i (e ∷ log) = (names_at h e && slice_index (named_map e.reply) i == 1) || discloses h i log

-- a frame of n positions carries position i in its map
abbrev pub carries : ℕ → List ℕ → ℕ → Bool
carries n bytes i = kind_in bytes == 2 && slice_index (map_in n bytes) i == 1

abbrev pub says_map : ℕ → Reply → ℕ → Bool
says_map n (says bytes buffer) i = carries n bytes i
says_map n _ i = false

-- whether a frame that it wrote carries position i
abbrev pub wrote : ℕ → ℕ → ℕ → List Event → Bool
wrote h n i [] = false
wrote h n i (e ∷ log) = (e.handle == h && says_map n e.reply i) || wrote h n i log

-- how often its open was accepted
abbrev pub is_begin : Reply → Bool
is_begin begins = true
is_begin _ = false

abbrev pub opens : ℕ → List Event → ℕ
opens h [] = 0
opens h (e ∷ log) = opens h log + cond (e.handle == h && is_begin e.reply) 1 0

-- a frame that an end wrote
abbrev pub Wrote : ℕ → List ℕ → List Event → Type 0
Wrote h bytes log =
    (r : ℕ) × (buffer : List ℕ) × (buffer' : List ℕ) × Among (event h (say_call r buffer) (says bytes buffer')) log

-- every frame that an end accepted equals one that the other had written before
abbrev pub Delivered : ℕ → ℕ → List Event → Type 0
Delivered h other [] = Unit {0}
Delivered h other (e ∷ log) =
    ((bytes : List ℕ) (what : Hearing) → e ≡ event h (hear_call bytes) (hears what) → Wrote other bytes log)
    × Delivered h other log
