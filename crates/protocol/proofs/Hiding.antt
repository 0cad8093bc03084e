-- Hiding, over every run: the ends of a block with a companion word added make the same run.
use Rattle.std.proofs.Common.{◌≡◌, ℕ, Bool, true, false, cond, not, List, [], ◌∷◌, map, length, get_or, replicate, Some, None, Option, sym, refl, ap, ◌∙◌, ⊎_elim, arith}
use Rattle.std.proofs.lemmas.Grind.{common_steps}
use Rattle.std.proofs.lemmas.List.{length-replicate, get_or-replicate, get_or_past}
use Rattle.std.proofs.lemmas.List.FromFn.{length-map-range_with_len, get_or-map-range_with_len}
use Rattle.std.proofs.lemmas.Bool.{and_from, cases_lt, or_cases, or_left, or_right, eqb-true, eq-eqb, both_ways}
use Rattle.codes.specs.Code.{Code, checks}
use Rattle.codes.specs.Syndrome.{IsKey, syndrome, added}
use Rattle.decoders.specs.Decoding.{Rule, Room}
use Rattle.protocol.specs.Counting.{list_of}
use Rattle.protocol.specs.Plan.{Plan, has_kind, plan_fits, wrong_key}
use Rattle.protocol.specs.State.{State, Held, idle, opened, begun, raw_bits, is_open}
use Rattle.protocol.specs.Asking.{Verdict, settled, clashed, spent, named}
use Rattle.protocol.specs.Calls.{Call, Done, Reply, open_call, say_call, hear_call, turn_call, key_call, close_call, refused, no_memory, begins, says, hears, turns, writes, closes}
use Rattle.protocol.specs.Hearing.{hear_done, heard_syndrome, heard_values, stays}
use Rattle.protocol.specs.Turning.{turn_done, taken, after, concluded, disclosing, judged_now, is_matrix, roomy}
use Rattle.protocol.specs.Steps.{step_of, open_done, say_done, key_done, still_open}
use Rattle.protocol.specs.Runs.{Ask, Event, held_after, log_of}
use Rattle.protocol.specs.Reading.{Among, here, there, event, named_map, verdict_map, names, is_begin}
use Rattle.protocol.specs.Guarantee.{Block, Premises, is_public, Companion, of_block, shift_key, shift_call, shift_ask, shift_reply, shift_event, Hiding}
use Rattle.protocol.proofs.Shift.{shift_state, Veiled, say_shift, hear_shift, turn_shift, key_shift}
use Rattle.protocol.proofs.Opening.{FitKey, fit_key, key_fits, open_begins, begun_shift, shifted_fits, fit_plan}

abbrev shift_held : List ℕ → Held → Held
shift_held word idle = idle
shift_held word (opened s) = opened (shift_state word s)

abbrev shift_both : List ℕ → List ℕ → Done Held → Done Held
shift_both word raw d = record { held = shift_held word d.held; reply = shift_reply raw d.reply }

abbrev HeldVeiled : ℕ → List ℕ → List ℕ → Held → Type 0
HeldVeiled n kinds word idle = Unit {0}
HeldVeiled n kinds word (opened s) = Veiled n kinds word s

-- what stays of an end through a call that names nothing
record Kept (s t : State) : Type 0 where
  kinds : t.kinds ≡ s.kinds
  key : t.key ≡ s.key
  rounds : t.rounds ≡ s.rounds

same_state : (s : State) → Kept s s
same_state s = record { kinds = refl; key = refl; rounds = refl }

module _ (n : ℕ) (kinds word : List ℕ) (s : State) (v : Veiled n kinds word s) where
  kept_veil : (t : State) → Kept s t → Veiled n kinds word t
  kept_veil t k = grind (arith, common_steps, get_or)

-- saying, hearing and writing the key keep an end's kinds, key and rounds
say_keeps : (s : State) (r : ℕ) (buffer : List ℕ) → Kept s (say_done s r buffer).held
unfolding say_done
say_keeps s r buffer = grind (arith, common_steps, same_state)

hear_keeps : (s : State) (bytes : List ℕ) → Kept s (hear_done s bytes).held
unfolding hear_done heard_syndrome heard_values
hear_keeps s bytes = grind (arith, common_steps, same_state, get_or)

key_keeps : (s : State) (buffer : List ℕ) → Kept s (key_done s buffer).held
unfolding key_done
key_keeps s buffer = grind (arith, common_steps, same_state)

module _ (n : ℕ) (kinds word : List ℕ) (s : State) (v : Veiled n kinds word s) where
  -- a turn marks what it names, and there the word is 0
  after_veil : (verdict : Verdict) (pattern : List ℕ)
      → ((i : ℕ) → get_or (verdict_map verdict) i 0 ≡ 1 → get_or word i 0 ≡ 0)
      → Veiled n kinds word (after s verdict pattern)
  unfolding concluded disclosing list_of
  after_veil settled pattern h = kept_veil n kinds word s v _ (record { kinds = refl; key = refl; rounds = refl })
  after_veil clashed pattern h = kept_veil n kinds word s v _ (record { kinds = refl; key = refl; rounds = refl })
  after_veil spent pattern h = kept_veil n kinds word s v _ (record { kinds = refl; key = refl; rounds = refl })
  after_veil (named map) pattern h = grind (arith, common_steps, length-map-range_with_len, get_or, get_or-map-range_with_len, get_or_past, cases_lt, eqb-true)

  turn_veil : (rule : Rule) (code : Code) (room : Room) (pattern confidence : List ℕ) (words : ℕ)
      → ((i : ℕ) → get_or (named_map (turn_done rule s code room pattern confidence words).reply) i 0 ≡ 1 → get_or word i 0 ≡ 0)
      → Veiled n kinds word (turn_done rule s code room pattern confidence words).held
  unfolding turn_done
  turn_veil rule code room pattern confidence words =
      go (not (is_open s.stage.outcome)) (not s.stage.heard) (not (is_matrix s code)) (roomy code room pattern confidence words)
    where
      go : (t u m w : Bool)
          → ((i : ℕ)
          → get_or
          (named_map
          (cond t (stays s (refused 17 0))
          (cond u (stays s (refused 18 0))
          (cond m (stays s (refused 19 0))
          (cond w (taken s (judged_now rule s code) pattern confidence) (stays s (refused 20 0)))))
          ).reply)
          i 0
          ≡ 1
          → get_or word i 0 ≡ 0)
          → Veiled n kinds word
          (cond t (stays s (refused 17 0))
          (cond u (stays s (refused 18 0))
          (cond m (stays s (refused 19 0))
          (cond w (taken s (judged_now rule s code) pattern confidence) (stays s (refused 20 0)))))
          ).held
      go true u m w h = v
      go false true m w h = v
      go false false true w h = v
      go false false false false h = v
      go false false false true h = after_veil (judged_now rule s code).verdict (judged_now rule s code).pattern h

  -- one call of an open end
  step_veil : (rule : Rule) (call : Call)
      → ((i : ℕ) → get_or (named_map (step_of rule (opened s) call).reply) i 0 ≡ 1 → get_or word i 0 ≡ 0)
      → HeldVeiled n kinds word (step_of rule (opened s) call).held
  step_veil rule (open_call p c k memory) h = v
  step_veil rule (say_call r buffer) h = kept_veil n kinds word s v _ (say_keeps s r buffer)
  step_veil rule (hear_call bytes) h = kept_veil n kinds word s v _ (hear_keeps s bytes)
  step_veil rule (turn_call c room p f w) h = turn_veil rule c room p f w h
  step_veil rule (key_call buffer) h = kept_veil n kinds word s v _ (key_keeps s buffer)
  step_veil rule close_call h = tt

  step_shift : (rule : Rule) (call : Call) (reply : Reply)
      → step_of rule (opened (shift_state word s)) (shift_call reply word call)
      ≡ shift_both word (raw_bits kinds (λ i. get_or word i 0)) (step_of rule (opened s) call)
  step_shift rule (open_call p c k memory) reply = refl
  step_shift rule (say_call r buffer) reply = ap still_open (say_shift n kinds word s v _ r buffer)
  step_shift rule (hear_call bytes) reply = ap still_open (hear_shift n kinds word s v _ bytes)
  step_shift rule (turn_call c room p f w) reply = ap still_open (turn_shift n kinds word s v _ rule c room p f w)
  step_shift rule (key_call buffer) reply = ap still_open (key_shift n kinds word s v buffer)
  step_shift rule close_call reply = refl

-- a reply that tells nothing: no open, frame, turn, key or close accepted
abbrev pub Silent : Reply → Type 0
Silent (refused number place) = Unit {0}
Silent no_memory = Unit {0}
Silent begins = ⊥
Silent (says bytes buffer) = ⊥
Silent (hears what) = Unit {0}
Silent (turns verdict p f) = ⊥
Silent (writes buffer) = ⊥
Silent (closes number side raw leak outcome) = ⊥

-- how an open ends: accepted with a plan and a key that fit, or turned away with the end as it was
pub data Opened (p : Plan) (c : Code) (key : List ℕ) (memory : Bool) : Type 0 where
  taken_up : plan_fits p c ≡ true → FitKey c.width p.kinds key → memory ≡ true
      → open_done p c key memory ≡ record { held = opened (begun p c key); reply = begins } → Opened p c key memory
  turned_away : (reply : Reply) → Silent reply → is_begin reply ≡ false → ((raw : List ℕ) → shift_reply raw reply ≡ reply)
      → open_done p c key memory ≡ record { held = idle; reply = reply } → Opened p c key memory

pub open_cases : (p : Plan) (c : Code) (key : List ℕ) (memory : Bool) → Opened p c key memory
unfolding open_done
open_cases p c key memory = go (plan_fits p c) refl (wrong_key c.width p.kinds key) refl memory refl
  where
    go : (t : Bool) → plan_fits p c ≡ t → (w : Option ℕ) → wrong_key c.width p.kinds key ≡ w → (m : Bool) → memory ≡ m
        → Opened p c key memory
    go false e w f m g = turned_away (refused 8 0) tt refl (λ raw. refl) (rw e)
    go true e (Some i) f m g = turned_away (refused 9 i) tt refl (λ raw. refl) (rw (e, f))
    go true e None f false g = turned_away no_memory tt refl (λ raw. refl) (rw (e, f, g))
    go true e None f true g = taken_up e (fit_key c.width p.kinds key f) g (rw (e, f, g))

-- a call of an end that is not open
module _ (block : Block) (word : List ℕ) (bits : IsKey block.code.width word)
    (evenly : syndrome block.code word ≡ replicate (checks block.code) 0)
    (shortened : (i : ℕ) → has_kind 2 block.plan.kinds i ≡ true → get_or word i 0 ≡ 0) where
  abbrev n : ℕ
  n = block.code.width

  abbrev kinds : List ℕ
  kinds = block.plan.kinds

  abbrev raw : List ℕ
  raw = raw_bits kinds (λ i. get_or word i 0)

  begun_veil : (p : Plan) (c : Code) (key : List ℕ) → p.kinds ≡ kinds → c ≡ block.code → plan_fits p c ≡ true
      → FitKey c.width p.kinds key → Veiled n kinds word (begun p c key)
  unfolding begun
  begun_veil p c key same-kinds same_code e fit =
      record {
        kinds_are = same-kinds;
        kinds_long = ap length (sym same-kinds) ∙ (fit_plan p c e).kinds ∙ ap (λ x. x.width) same_code;
        key = rw (← same_code) fit.is_key;
        rounds_long = length-replicate {A = ℕ} c.width 0 ∙ ap (λ x. x.width) same_code;
        zeros =
            λ i h.
            absurd
            (h
            (⊎_elim (λ l. get_or-replicate {A = ℕ} c.width i 0 0 l)
            (λ past. get_or_past (replicate c.width 0) i 0 (rw (length-replicate {A = ℕ} c.width 0) past)) (cases_lt i c.width)));
      }

  module _ (p : Plan) (c : Code) (key : List ℕ) (memory : Bool)
      (with : (open_done p c key memory).reply ≡ begins → (p.kinds ≡ kinds) × (c ≡ block.code)) where
    open_shift : open_done p c (shift_key (open_done p c key memory).reply word key) memory ≡ shift_both word raw (open_done p c key memory)
    open_shift = go (open_cases p c key memory)
      where
        go : Opened p c key memory
            → open_done p c (shift_key (open_done p c key memory).reply word key) memory ≡ shift_both word raw (open_done p c key memory)
        go (taken_up e fit m is) =
            let w = with (ap (λ d. d.reply) is) in
            let same-kinds = w.0 in
            let same_code = w.1 in
            let bits' : IsKey c.width word = rw same_code bits in
            let evenly' : syndrome c word ≡ replicate (checks c) 0 = rw same_code evenly in
            let short' : (i : ℕ) → has_kind 2 p.kinds i ≡ true → get_or word i 0 ≡ 0 = rw same-kinds shortened in
            let again =
            open_begins p c (added key word) memory e
            (key_fits c.width p.kinds (added key word) (shifted_fits p c key word fit bits' evenly' short')) m in
            let begun' = begun_shift p c key word fit bits' evenly' short' in
            rw is (again ∙ ap (λ x. record { held = opened x; reply = begins }) begun')
        go (turned_away reply quiet none keep is) = rw (is, none, is, keep raw)

    open_veil : HeldVeiled n kinds word (open_done p c key memory).held
    open_veil = grind (arith, common_steps, open_cases, begun_veil)

-- a reply whose map names a position is a turn's that names
names_it : (r : Reply) (i : ℕ) → get_or (named_map r) i 0 ≡ 1 → names r ≡ true
names_it (refused number place) i e = absurd (omega arith)
names_it no_memory i e = absurd (omega arith)
names_it begins i e = absurd (omega arith)
names_it (says bytes buffer) i e = absurd (omega arith)
names_it (hears what) i e = absurd (omega arith)
names_it (turns settled p f) i e = absurd (omega arith)
names_it (turns clashed p f) i e = absurd (omega arith)
names_it (turns spent p f) i e = absurd (omega arith)
names_it (turns (named map) p f) i e = refl
names_it (writes buffer) i e = absurd (omega arith)
names_it (closes block side raw leak outcome) i e = absurd (omega arith)

-- what is public stays public
still_public : (block : Block) (e : Event) (log : List Event) (i : ℕ) → is_public block log i ≡ true → is_public block (e ∷ log) i ≡ true
still_public block e log i p = grind (arith, common_steps, or_left, or_right, or_cases)

companion_before : (block : Block) (e : Event) (log : List Event) (word : List ℕ) → Companion block (e ∷ log) word → Companion block log word
companion_before block e log word c = grind (arith, common_steps, still_public)

-- what a turn of the block names is public
named-public : (block : Block) (e : Event) (log : List Event) (i : ℕ)
    → of_block block e.handle ≡ true → get_or (named_map e.reply) i 0 ≡ 1 → is_public block (e ∷ log) i ≡ true
named-public block e log i own one = grind (arith, common_steps, or_left, or_right, or_cases, get_or, and_from, names_it, one, eq-eqb)

module _ (rule : Rule) (block : Block) (word : List ℕ) where
  abbrev raw_word : List ℕ
  raw_word = raw_bits block.plan.kinds (λ i. get_or word i 0)

  -- every accepted open of the block has its kinds and its matrix
  abbrev Opens : List Event → Type 0
  Opens log =
      (h : ℕ) (p : Plan) (c : Code) (k : List ℕ) (memory : Bool) → of_block block h ≡ true
      → Among (event h (open_call p c k memory) begins) log → (p.kinds ≡ block.plan.kinds) × (c ≡ block.code)

  abbrev shift_at : ℕ → Held → Held
  shift_at h x = cond (of_block block h) (shift_held word x) x

  record Shifted (asks : List Ask) : Type 0 where
    logs : log_of rule (map (shift_ask block word) (log_of rule asks)) ≡ map (shift_event block word) (log_of rule asks)
    helds : (h : ℕ) → held_after rule (map (shift_ask block word) (log_of rule asks)) h ≡ shift_at h (held_after rule asks h)
    veils : (h : ℕ) → of_block block h ≡ true → HeldVeiled block.code.width block.plan.kinds word (held_after rule asks h)

  -- one call of an end of the block
  step_all : Companion block [] word → (x : Held) (call : Call)
      → HeldVeiled block.code.width block.plan.kinds word x
      → ((p : Plan) (c : Code) (k : List ℕ) (memory : Bool) → call ≡ open_call p c k memory → (step_of rule x call).reply ≡ begins
      → (p.kinds ≡ block.plan.kinds) × (c ≡ block.code))
      → ((i : ℕ) → get_or (named_map (step_of rule x call).reply) i 0 ≡ 1 → get_or word i 0 ≡ 0)
      → (step_of rule (shift_held word x) (shift_call (step_of rule x call).reply word call) ≡ shift_both word raw_word (step_of rule x call))
      × HeldVeiled block.code.width block.plan.kinds word (step_of rule x call).held
  step_all w idle (open_call p c k memory) v opens zeros = (
    open_shift block word w.bits w.evenly w.shortened p c k memory (opens p c k memory refl),
    open_veil block word w.bits w.evenly w.shortened p c k memory (opens p c k memory refl),
  )
  step_all w idle (say_call r buffer) v opens zeros = (refl, tt)
  step_all w idle (hear_call bytes) v opens zeros = (refl, tt)
  step_all w idle (turn_call c room p f n) v opens zeros = (refl, tt)
  step_all w idle (key_call buffer) v opens zeros = (refl, tt)
  step_all w idle close_call v opens zeros = (refl, tt)
  step_all w (opened s) call v opens zeros = (
    step_shift block.code.width block.plan.kinds word s v rule call (step_of rule (opened s) call).reply,
    step_veil block.code.width block.plan.kinds word s v rule call zeros,
  )

  opens_before : (e : Event) (log : List Event) → Opens (e ∷ log) → Opens log
  opens_before e log o h p c k memory own a = o h p c k memory own (there a)

  among_here : (h : ℕ) (call call' : Call) (r r' : Reply) (log : List Event)
      → call ≡ call' → r ≡ r' → Among (event h call' r') (event h call r ∷ log)
  among_here h call call' r r' log e f = rw (← e, ← f) here

  module _ (a : Ask) (asks : List Ask) (opens : Opens (log_of rule (a ∷ asks))) (comp : Companion block (log_of rule (a ∷ asks)) word)
      (before : Shifted asks) where
    abbrev now_held : Held
    now_held = held_after rule asks a.handle

    abbrev done : Done Held
    done = step_of rule now_held a.call

    own-step : of_block block a.handle ≡ true
        → (step_of rule (shift_held word now_held) (shift_call done.reply word a.call) ≡ shift_both word raw_word done)
        × HeldVeiled block.code.width block.plan.kinds word done.held
    own-step own =
        step_all (record { bits = comp.bits; evenly = comp.evenly; shortened = comp.shortened; public = λ i e. absurd (both_ways false refl e) })
        now_held a.call (before.veils a.handle own)
        (λ p c k memory is_new accepted.
        opens a.handle p c k memory own
        (among_here a.handle a.call (open_call p c k memory) done.reply begins (log_of rule asks) is_new accepted))
        (λ i one. comp.public i (named-public block (event a.handle a.call done.reply) (log_of rule asks) i own one))

    one : (b : Bool) → of_block block a.handle ≡ b
        → step_of rule (cond b (shift_held word now_held) now_held) (cond b (shift_call done.reply word a.call) a.call)
        ≡ cond b (shift_both word raw_word done) done
    one true own = (own-step own).0
    one false other = refl

    -- the shifted run's step
    shifted_step : step_of rule (held_after rule (map (shift_ask block word) (log_of rule asks)) a.handle)
        (cond (of_block block a.handle) (shift_call done.reply word a.call) a.call)
        ≡ cond (of_block block a.handle) (shift_both word raw_word done) done
    shifted_step = rw (before.helds a.handle) (one (of_block block a.handle) refl)

    reply_of : (b : Bool) → (cond b (shift_both word raw_word done) done).reply ≡ cond b (shift_reply raw_word done.reply) done.reply
    reply_of true = refl
    reply_of false = refl

    held_of : (b : Bool) → (cond b (shift_both word raw_word done) done).held ≡ cond b (shift_held word done.held) done.held
    held_of true = refl
    held_of false = refl

    hiding-step : Shifted (a ∷ asks)
    hiding-step = grind (arith, common_steps, shifted_step, reply_of, held_of, eqb-true, own-step)

  hiding-run : (asks : List Ask) → Opens (log_of rule asks) → Companion block (log_of rule asks) word → Shifted asks
  hiding-run [] opens comp =
      record { logs = refl; helds = λ h. idle_at (of_block block h); veils = λ h own. tt }
    where
      idle_at : (t : Bool) → idle ≡ cond t idle idle
      idle_at true = refl
      idle_at false = refl
  hiding-run (a ∷ asks) opens comp =
      hiding-step a asks opens comp
      (hiding-run asks (opens_before _ (log_of rule asks) opens) (companion_before block _ (log_of rule asks) word comp))

-- the premises say with what the ends of a block open
pub hidden : (rule : Rule) (block : Block) (asks : List Ask) → Premises block (log_of rule asks) → Hiding rule block (log_of rule asks)
hidden rule block asks premises word comp = grind (arith, common_steps, hiding-run, eqb-true, or_cases)
