-- Both ends of a block, over every run.
use Rattle.std.proofs.Common.{◌≡◌, ℕ, ◌<◌, ◌≤◌, true, cond, eqb, List, [], ◌∷◌, sym, refl, subst, ⊎_elim, arith}
use Rattle.std.proofs.lemmas.Bool.{cases_eq, eq-eqb, ne_eqb}
use Rattle.decoders.specs.Decoding.{Rule}
use Rattle.frames.specs.Format.{frame_bytes}
use Rattle.protocol.specs.State.{Held}
use Rattle.protocol.specs.Calls.{Call, Reply, open_call, turn_call, begins, turns}
use Rattle.protocol.specs.Steps.{step_of}
use Rattle.protocol.specs.Runs.{Ask, Event, held_after, log_of}
use Rattle.protocol.specs.Reading.{Among, here, there, event, is_naming, opens, Wrote, Delivered}
use Rattle.protocol.specs.Guarantee.{Block, OpensAs, TurnsWith, Premises}
use Rattle.protocol.proofs.Opening.{FitKey}
use Rattle.protocol.proofs.Course.{verdict_at}
use Rattle.protocol.proofs.CourseFrames.{course_frame}
use Rattle.protocol.proofs.Follow.{Seat, SeatOf, alice_seat, bob_seat, of_alice, of_bob}
use Rattle.protocol.proofs.Track.{Track, track_none}
use Rattle.protocol.proofs.Tracking.{track_other, track_own}

pub record Both (rule : Rule) (block : Block) (asks : List Ask) : Type 0 where
  pub alice_on :
      Track rule block block.alice block.bob (alice_seat block) (bob_seat block) (held_after rule asks block.alice) (log_of rule asks)
  pub bob_on :
      Track rule block block.bob block.alice (bob_seat block) (alice_seat block) (held_after rule asks block.bob) (log_of rule asks)

premises_before : (block : Block) (e : Event) (log : List Event) → Premises block (e ∷ log) → Premises block log
premises_before block e log p =
    record {
      matrix = p.matrix;
      number = p.number;
      apart = p.apart;
      alice_opens = λ q c k m a. p.alice_opens q c k m (there a);
      bob_opens = λ q c k m a. p.bob_opens q c k m (there a);
      alice_once = omega (arith, p.alice_once);
      bob_once = omega (arith, p.bob_once);
      alice_turns = λ c room q f w v q' f' a. p.alice_turns c room q f w v q' f' (there a);
      bob_turns = λ c room q f w v q' f' a. p.bob_turns c room q f w v q' f' (there a);
      alice_hears = p.alice_hears.1;
      bob_hears = p.bob_hears.1;
    }

-- what is known of an end's frames, for the other
frames_of : (rule : Rule) (block : Block) (h o : ℕ) (seat other : Seat) (x : Held) (log : List Event)
    → Track rule block o h other seat x log
    → (bytes : List ℕ) → Wrote o bytes log
    → (j : ℕ) × ((i : ℕ) → i < j → is_naming (verdict_at rule block i) ≡ true) × (bytes ≡ frame_bytes (course_frame rule block other j))
    × FitKey block.code.width block.plan.kinds other.own
frames_of rule block h o seat other x log t bytes w =
    let z = t.facts.frames bytes w in (z.0, λ i l. t.facts.names_all i (omega (arith, z.1)), z.2, z.3)

among_this : (h : ℕ) (call call' : Call) (r r' : Reply) (log : List Event) → call ≡ call' → r ≡ r' → Among (event h call' r') (event h call r ∷ log)
among_this h call call' r r' log e f = rw (← e, ← f) here

module _ (rule : Rule) (block : Block) (asks : List Ask) (call : Call) where
  -- a call of one of the ends, by what the premises say of that end
  own_step : (h o : ℕ) (seat other : Seat) → SeatOf block seat → other.own ≡ seat.other → other.side < 2
      → Track rule block h o seat other (held_after rule asks h) (log_of rule asks)
      → Track rule block o h other seat (held_after rule asks o) (log_of rule asks)
      → Premises block (event h call (step_of rule (held_after rule asks h) call).reply ∷ log_of rule asks)
      → OpensAs block h seat.side seat.own (event h call (step_of rule (held_after rule asks h) call).reply ∷ log_of rule asks)
      → opens h (event h call (step_of rule (held_after rule asks h) call).reply ∷ log_of rule asks) ≤ 1
      → TurnsWith block h (event h call (step_of rule (held_after rule asks h) call).reply ∷ log_of rule asks)
      → Delivered h o (event h call (step_of rule (held_after rule asks h) call).reply ∷ log_of rule asks)
      → Track rule block h o seat other (step_of rule (held_after rule asks h) call).held
      (event h call (step_of rule (held_after rule asks h) call).reply ∷ log_of rule asks)
  own_step h o seat other of whose side this that p opens-as once turns-with hears =
      let log = log_of rule asks in
      let r = (step_of rule (held_after rule asks h) call).reply in
      track_own rule block h o seat other of whose p.matrix p.number side (held_after rule asks h) call log this
      (frames_of rule block h o seat other (held_after rule asks o) log that)
      (record {
        opens_as = λ q c k m is accepted. opens-as q c k m (among_this h call (open_call q c k m) r begins log is accepted);
        once = once;
        turns_with =
            λ c room q f w v q' f' is accepted.
            turns-with c room q f w v q' f' (among_this h call (turn_call c room q f w) r (turns v q' f') log is accepted);
        hears_from = λ bytes what is accepted. hears.0 bytes what (let a = is in let b = accepted in cc);
      })

  -- the end with handle h, whoever made the call
  at_end : (h o : ℕ) (seat other : Seat) (hh : ℕ)
      → Track rule block h o seat other (held_after rule asks h) (log_of rule asks)
      → (hh ≡ h
      → Track rule block h o seat other (step_of rule (held_after rule asks h) call).held
      (event h call (step_of rule (held_after rule asks h) call).reply ∷ log_of rule asks))
      → Track rule block h o seat other
      (cond (eqb hh h) (step_of rule (held_after rule asks hh) call).held (held_after rule asks h))
      (event hh call (step_of rule (held_after rule asks hh) call).reply ∷ log_of rule asks)
  at_end h o seat other hh t own =
      ⊎_elim
      (λ e.
      subst
      (λ k. Track rule block h o seat other
      (cond (eqb k h) (step_of rule (held_after rule asks k) call).held (held_after rule asks h))
      (event k call (step_of rule (held_after rule asks k) call).reply ∷ log_of rule asks))
      (sym e) (rw (eq-eqb h h refl) (own e)))
      (λ ne. rw (ne_eqb hh h ne) (track_other rule block h o seat other (held_after rule asks h) _ (log_of rule asks) ne t)) (cases_eq hh h)

pub together : (rule : Rule) (block : Block) (asks : List Ask) → Premises block (log_of rule asks) → Both rule block asks
together rule block [] p =
    record {
      alice_on = track_none rule block block.alice block.bob (alice_seat block) (bob_seat block);
      bob_on = track_none rule block block.bob block.alice (bob_seat block) (alice_seat block);
    }
together rule block (a ∷ asks) p =
    let both = together rule block asks (premises_before block _ (log_of rule asks) p) in
    let at : (h : ℕ) → a.handle ≡ h
    → Premises block (event h a.call (step_of rule (held_after rule asks h) a.call).reply ∷ log_of rule asks) =
    λ h e. subst (λ k. Premises block (event k a.call (step_of rule (held_after rule asks k) a.call).reply ∷ log_of rule asks)) e p in
    record {
      alice_on =
          at_end rule block asks a.call block.alice block.bob (alice_seat block) (bob_seat block) a.handle both.alice_on
          (λ e.
          let q = at block.alice e in
          own_step rule block asks a.call block.alice block.bob (alice_seat block) (bob_seat block) of_alice refl (omega arith)
          both.alice_on both.bob_on q q.alice_opens q.alice_once q.alice_turns q.alice_hears);
      bob_on =
          at_end rule block asks a.call block.bob block.alice (bob_seat block) (alice_seat block) a.handle both.bob_on
          (λ e.
          let q = at block.bob e in
          own_step rule block asks a.call block.bob block.alice (bob_seat block) (alice_seat block) of_bob refl (omega arith)
          both.bob_on both.alice_on q q.bob_opens q.bob_once q.bob_turns q.bob_hears);
    }
