-- The guarantee.
use Rattle.std.proofs.Common.{◌≡◌, ℕ, zero, suc, ◌+◌, ◌-◌, ◌%◌, ◌<◌, ◌≤◌, true, false, not, ◌&&◌, eqb, List, [], ◌∷◌, length, get_or, take, Ok, sym, refl, ap, ◌∙◌, subst, ⊎_elim, arith}
use Rattle.std.proofs.lemmas.Grind.{common_steps}
use Rattle.std.proofs.lemmas.List.{take_at}
use Rattle.std.proofs.lemmas.Bool.{cases_lt, cases_eq, cases_Bool, eqb-true, eq-eqb, ne_eqb, and_parts, and_from, or_cases, or_left, or_right, both_ways, not_from_false}
use Rattle.codes.specs.Code.{checks}
use Rattle.codes.specs.Syndrome.{syndrome}
use Rattle.decoders.specs.Decoding.{Rule, Formed}
use Rattle.frames.specs.Shape.{FrameShape}
use Rattle.frames.specs.Format.{frame_bytes}
use Rattle.frames.specs.Reading.{read_shape, outcome, frame_in, map_in}
use Rattle.frames.specs.Writing.{map_of, in_round, laid}
use Rattle.protocol.specs.Plan.{with_side, has_kind, plan_fits}
use Rattle.protocol.specs.State.{Held, idle, opened, raw_bits}
use Rattle.protocol.specs.Asking.{Verdict, settled, clashed, spent, named}
use Rattle.protocol.specs.Calls.{Call, Reply, open_call, say_call, hear_call, turn_call, key_call, close_call, refused, no_memory, begins, says, hears, turns, writes, closes}
use Rattle.protocol.specs.Runs.{Ask, Event, held_after, log_of}
use Rattle.protocol.specs.Reading.{Among, here, there, event, verdict_map, is_naming, reached, disclosed_in, discloses, carries, says_map, wrote, Wrote}
use Rattle.protocol.specs.Guarantee.{Block, Premises, is_public, SettledWith, corrected, Agreement, carried, Account, Guaranteed}
use Rattle.protocol.proofs.Opening.{FitKey, fit_plan}
use Rattle.protocol.proofs.Words.{added-within, gathered_cong}
use Rattle.protocol.proofs.Ranks.{tally_cong}
use Rattle.protocol.proofs.Course.{course, judged_at, verdict_at, course_next, course-length, course-bound, marked_at, names-new, round-stays, still_out, count_is, is_out, map_of_one, map_of-there}
use Rattle.protocol.proofs.CourseFrames.{course_frame, course-read}
use Rattle.protocol.proofs.Follow.{Seat, alice_seat, bob_seat}
use Rattle.protocol.proofs.Settled.{pattern-length, disclosed-bit, meets-syndrome}
use Rattle.protocol.proofs.Track.{Track, agreed_at}
use Rattle.protocol.proofs.Together.{Both, together}
use Rattle.protocol.specs.Steps.{step_of}
use Rattle.protocol.proofs.Hiding.{hidden, open_cases}
use Rattle.protocol.proofs.Listen.{hear_heeds}
use Rattle.protocol.proofs.Tracking.{turn_cases, key_cases}

-- nobody passes a round that settles
stops_at : (rule : Rule) (block : Block) (r k : ℕ) → verdict_at rule block r ≡ settled
    → ((j : ℕ) → j < k → is_naming (verdict_at rule block j) ≡ true) → k ≤ r
stops_at rule block r k e h = grind (arith, common_steps, both_ways, cases_lt)

-- a position that a round names is disclosed from then on
named_out : (rule : Rule) (block : Block) (j r i : ℕ) → j < r → is_naming (verdict_at rule block j) ≡ true
    → get_or (verdict_map (verdict_at rule block j)) i 0 ≡ 1
    → (i < block.code.width) × (get_or (course rule block r).rounds i 0 ≡ 0 → ⊥) × (has_kind 2 block.plan.kinds i ≡ false)
named_out rule block j r i l naming one = go (verdict_at rule block j) refl naming one
  where
    go : (v : Verdict) → verdict_at rule block j ≡ v → is_naming v ≡ true → get_or (verdict_map v) i 0 ≡ 1
        → (i < block.code.width) × (get_or (course rule block r).rounds i 0 ≡ 0 → ⊥) × (has_kind 2 block.plan.kinds i ≡ false)
    go settled e n o = absurd (both_ways false refl n)
    go clashed e n o = absurd (both_ways false refl n)
    go spent e n o = absurd (both_ways false refl n)
    go (named m) e n o =
        let fresh = names-new rule block j m e i o in
        let long : i < length (course rule block j).rounds = omega (arith, course-length rule block j, fresh.0) in
        let at : get_or (course rule block (suc j)).rounds i 0 ≡ suc j =
        ap (λ p. get_or p.rounds i 0) (course_next rule block j m e) ∙ marked_at (suc j) m (course rule block j).rounds i long
        ∙ rw (eq-eqb (get_or m i 0) 1 o) in
        let stays = still_out rule block (suc j) r i l (λ z. omega (arith, at, z)) in
        (fresh.0, (λ z. omega (arith, at, stays, z)), fresh.2)

module _ (rule : Rule) (formed : Formed rule) (block : Block) (asks : List Ask) (p : Premises block (log_of rule asks)) (both : Both rule block asks) where
  same-places : (r : ℕ) → 1 ≤ r → r ≤ reached block.alice (log_of rule asks) → r ≤ reached block.bob (log_of rule asks)
      → disclosed_in block.alice r (log_of rule asks) ≡ disclosed_in block.bob r (log_of rule asks)
  same-places r low a b =
      let j : ℕ = r - 1 in
      let is : j + 1 ≡ r = omega arith in
      ap (λ k. disclosed_in block.alice k (log_of rule asks)) (sym is) ∙ both.alice_on.facts.maps j (omega arith)
      ∙ sym (both.bob_on.facts.maps j (omega arith)) ∙ ap (λ k. disclosed_in block.bob k (log_of rule asks)) is

  -- what Bob's settling says, by the round that he reached
  record Facing (pattern : List ℕ) : Type 0 where
    has_settled : verdict_at rule block (reached block.bob (log_of rule asks)) ≡ settled
    pattern_is : pattern ≡ (judged_at rule block (course rule block (reached block.bob (log_of rule asks)))).pattern
    fits : plan_fits (with_side 1 block.plan) block.code ≡ true
    bob_key : FitKey block.code.width block.plan.kinds block.bob_key
    alice_key : FitKey block.code.width block.plan.kinds block.alice_key

  facing : (pattern : List ℕ) → SettledWith block (log_of rule asks) pattern → Facing pattern
  facing pattern (c, room, b, f, w, b', f', among, is_front) =
      let fact = both.bob_on.facts.settles c room b f w b' f' among in
      let r = reached block.bob (log_of rule asks) in
      let long = pattern-length rule block formed p.matrix r 1 fact.4 fact.1 in
      let front : take block.code.width b' ≡ (judged_at rule block (course rule block r)).pattern =
      ap (take block.code.width) fact.2 ∙ take_at (judged_at rule block (course rule block r)).pattern _ block.code.width long in
      record {
        has_settled = fact.1;
        pattern_is = is_front ∙ front;
        fits = fact.4;
        bob_key = fact.3;
        alice_key = (both.alice_on.facts.frames (frame_bytes (course_frame rule block (alice_seat block) 0)) fact.5).3;
      }

  meets : (pattern : List ℕ) → SettledWith block (log_of rule asks) pattern
      → syndrome block.code (corrected block pattern) ≡ syndrome block.code block.alice_key
  meets pattern s =
      let x = facing pattern s in
      ap (λ z. syndrome block.code (corrected block z)) x.pattern_is
      ∙ meets-syndrome rule block formed p.matrix (reached block.bob (log_of rule asks)) 1 x.fits x.has_settled x.bob_key.is_key

  public_out : (i : ℕ) → is_public block (log_of rule asks) i ≡ true → (r : ℕ) → verdict_at rule block r ≡ settled
      → (i < block.code.width) × (get_or (course rule block r).rounds i 0 ≡ 0 → ⊥) × (has_kind 2 block.plan.kinds i ≡ false)
  public_out i pub-i r e =
      ⊎_elim
      (λ a.
      let z = both.alice_on.facts.publics i a in
      let k = stops_at rule block r (reached block.alice (log_of rule asks)) e both.alice_on.facts.names_all in
      named_out rule block z.0 r i (omega (arith, z.1, k)) (both.alice_on.facts.names_all z.0 z.1) z.2)
      (λ b.
      let z = both.bob_on.facts.publics i b in
      let k = stops_at rule block r (reached block.bob (log_of rule asks)) e both.bob_on.facts.names_all in
      named_out rule block z.0 r i (omega (arith, z.1, k)) (both.bob_on.facts.names_all z.0 z.1) z.2)
      (or_cases (discloses block.alice i (log_of rule asks)) (discloses block.bob i (log_of rule asks)) pub-i)

  bits : (pattern : List ℕ) → SettledWith block (log_of rule asks) pattern → (i : ℕ) → is_public block (log_of rule asks) i ≡ true
      → get_or (corrected block pattern) i 0 ≡ get_or block.alice_key i 0
  bits pattern s i pub-i =
      let x = facing pattern s in
      let r = reached block.bob (log_of rule asks) in
      let out = public_out i pub-i r x.has_settled in
      let bit = disclosed-bit rule block formed p.matrix r 1 x.fits x.has_settled i out.0 out.1 out.2 in
      let l : i < length block.bob_key = omega (arith, x.bob_key.is_key.long, out.0) in
      let sum = added-within block.bob_key (judged_at rule block (course rule block r)).pattern i l in
      let small = x.alice_key.is_key.bits i out.0 in
      ap (λ z. get_or (corrected block z) i 0) x.pattern_is ∙ sum ∙ cancel _ _ _ bit small
    where
      cancel : (kb kp ka : ℕ) → kp ≡ (ka + kb) % 2 → ka < 2 → (kb + kp) % 2 ≡ ka
      cancel kb kp ka e l = omega arith

  key_writes : (pattern : List ℕ) → SettledWith block (log_of rule asks) pattern
      → (buffer buffer' : List ℕ) → Among (event block.bob (key_call buffer) (writes buffer')) (log_of rule asks)
      → buffer' ≡ laid (raw_bits block.plan.kinds (λ i. get_or (corrected block pattern) i 0)) buffer
  key_writes pattern s buffer buffer' among =
      let x = facing pattern s in
      let fact = both.bob_on.facts.keys buffer buffer' among in
      let kinds_long = (fit_plan (with_side 1 block.plan) block.code x.fits).kinds in
      let same_bits =
      gathered_cong (has_kind 0 block.plan.kinds)
      (agreed_at rule block block.bob block.alice (bob_seat block) (alice_seat block) (reached block.bob (log_of rule asks)))
      (λ i. get_or (corrected block pattern) i 0) (length block.plan.kinds)
      (λ i l raw.
      let h : i < length block.bob_key = omega (arith, x.bob_key.is_key.long, kinds_long) in
      sym
      (ap (λ z. get_or (corrected block z) i 0) x.pattern_is
      ∙ added-within block.bob_key (judged_at rule block (course rule block (reached block.bob (log_of rule asks)))).pattern i h)) in
      fact.1 ∙ ap (λ xs. laid xs buffer) same_bits

  pub agreement : Agreement block (log_of rule asks)
  agreement = record { places = same-places; meets = meets; bits = bits; key_writes = key_writes }

-- what a frame of the course carries
read_ok : (n m : ℕ) (bytes : List ℕ) (shape : FrameShape) → read_shape n m bytes ≡ Ok shape → frame_in n m bytes ≡ shape
unfolding read_shape
read_ok n m bytes shape = grind (arith, common_steps)

-- a frame that an end wrote is found in the list, and the other way round
wrote_from : (h n i : ℕ) (bytes : List ℕ) (log : List Event) → Wrote h bytes log → carries n bytes i ≡ true → wrote h n i log ≡ true
wrote_from h n i bytes log (r, buffer, buffer', a) c = go log a
  where
    go : (xs : List Event) → Among (event h (say_call r buffer) (says bytes buffer')) xs → wrote h n i xs ≡ true
    go [] a = elim a [ ]
    go (e ∷ xs) here = or_left (eqb h h && carries n bytes i) (wrote h n i xs) (and_from (eqb h h) (carries n bytes i) (eq-eqb h h refl) c)
    go (e ∷ xs) (there rest) = or_right (eqb e.handle h && says_map n e.reply i) (wrote h n i xs) (go xs rest)

says_it : (n i : ℕ) (r : Reply) → says_map n r i ≡ true → (bytes : List ℕ) × (buffer : List ℕ) × (r ≡ says bytes buffer) × (carries n bytes i ≡ true)
says_it n i (refused number place) e = absurd (both_ways false refl e)
says_it n i no_memory e = absurd (both_ways false refl e)
says_it n i begins e = absurd (both_ways false refl e)
says_it n i (says bytes buffer) e = (bytes, buffer, refl, e)
says_it n i (hears what) e = absurd (both_ways false refl e)
says_it n i (turns verdict p f) e = absurd (both_ways false refl e)
says_it n i (writes buffer) e = absurd (both_ways false refl e)
says_it n i (closes number side raw leak outcome) e = absurd (both_ways false refl e)

-- only say replies with a frame
says-call : (rule : Rule) (x : Held) (call : Call) (bytes buffer : List ℕ) → (step_of rule x call).reply ≡ says bytes buffer
    → (r : ℕ) × (b : List ℕ) × (call ≡ say_call r b)
says-call rule x (say_call r b) bytes buffer e = (r, b, refl)
says-call rule idle (open_call p c k m) bytes buffer e = grind (arith, common_steps, open_cases)
says-call rule idle (hear_call bs) bytes buffer e = cc
says-call rule idle (turn_call c room p f w) bytes buffer e = cc
says-call rule idle (key_call b) bytes buffer e = cc
says-call rule idle close_call bytes buffer e = cc
says-call rule (opened s) (open_call p c k m) bytes buffer e = cc
says-call rule (opened s) (hear_call bs) bytes buffer e = grind (arith, common_steps, hear_heeds)
says-call rule (opened s) (turn_call c room p f w) bytes buffer e = grind (arith, common_steps, turn_cases)
says-call rule (opened s) (key_call b) bytes buffer e = grind (arith, common_steps, key_cases)
says-call rule (opened s) close_call bytes buffer e = cc

wrote-some : (rule : Rule) (h n i : ℕ) (asks : List Ask) → wrote h n i (log_of rule asks) ≡ true
    → (bytes : List ℕ) × Wrote h bytes (log_of rule asks) × (carries n bytes i ≡ true)
wrote-some rule h n i [] e = absurd (both_ways false refl e)
wrote-some rule h n i (a ∷ asks) e =
    ⊎_elim
    (λ now-one.
    let b = and_parts (eqb a.handle h) (says_map n (step_of rule (held_after rule asks a.handle) a.call).reply i) now-one in
    let s = says_it n i (step_of rule (held_after rule asks a.handle) a.call).reply b.1 in
    let c = says-call rule (held_after rule asks a.handle) a.call s.0 s.1 s.2 in
    (s.0, (c.0, c.1, s.1, first a.handle h a.call (say_call c.0 c.1) _ _ (eqb-true a.handle h b.0) c.2 s.2), s.3))
    (λ old.
    let z = wrote-some rule h n i asks old in
    (z.0, (z.1.0, z.1.1, z.1.2, there z.1.3), z.2))
    (or_cases (eqb a.handle h && says_map n (step_of rule (held_after rule asks a.handle) a.call).reply i) (wrote h n i (log_of rule asks)) e)
  where
    first : (h₁ h₂ : ℕ) (c₁ c₂ : Call) (r₁ r₂ : Reply) → h₁ ≡ h₂ → c₁ ≡ c₂ → r₁ ≡ r₂
        → Among (event h₂ c₂ r₂) (event h₁ c₁ r₁ ∷ log_of rule asks)
    first h₁ h₂ c₁ c₂ r₁ r₂ e f g = rw (← e, ← f, ← g) here

module _ (rule : Rule) (block : Block) (h o : ℕ) (seat other : Seat) (asks : List Ask) (p : Premises block (log_of rule asks)) (side : other.side < 2)
    (own : Track rule block h o seat other (held_after rule asks h) (log_of rule asks))
    (theirs : Track rule block o h other seat (held_after rule asks o) (log_of rule asks)) where
  -- the map in a frame of the course
  map_read : (j : ℕ) → ((i : ℕ) → i < suc j → is_naming (verdict_at rule block i) ≡ true)
      → map_in block.code.width (frame_bytes (course_frame rule block other (suc j)))
      ≡ map_of (in_round (suc j) (course rule block (suc j)).rounds) (length (course rule block (suc j)).rounds)
  unfolding frame_bytes
  map_read j names =
      let reads = course-read rule block other p.matrix p.number side (suc j) names in
      let is = read_ok block.code.width (checks block.code) (frame_bytes (course_frame rule block other (suc j))) (course_frame rule block other (suc j)) reads in
      cc

  carries_out : (j i : ℕ) → ((k : ℕ) → k < suc j → is_naming (verdict_at rule block k) ≡ true) → i < block.code.width
      → in_round (suc j) (course rule block (suc j)).rounds i ≡ true
      → carries block.code.width (frame_bytes (course_frame rule block other (suc j))) i ≡ true
  unfolding frame_bytes
  carries_out j i names l there-now = grind (arith, common_steps, course, course-length, eq-eqb, get_or, course_frame, map_read, map_of-there)

  out_carried : (j i : ℕ) → ((k : ℕ) → k < j → is_naming (verdict_at rule block k) ≡ true)
      → carries block.code.width (frame_bytes (course_frame rule block other j)) i ≡ true
      → (m : ℕ) × (j ≡ suc m) × (get_or (course rule block j).rounds i 0 ≡ j)
  unfolding frame_bytes
  out_carried zero i names e = absurd (both_ways false refl e)
  out_carried (suc j) i names e = grind (arith, common_steps, get_or, course_frame, eqb-true, map_of_one, course, map_read)

  module _ (r : ℕ) (is-reached : r ≡ reached h (log_of rule asks)) (has_settled : verdict_at rule block r ≡ settled)
      (got : (j : ℕ) → j ≤ r → Wrote o (frame_bytes (course_frame rule block other j)) (log_of rule asks)) where
    names-below : (j : ℕ) → j < r → is_naming (verdict_at rule block j) ≡ true
    names-below j l = own.facts.names_all j (omega arith)

    out_wrote : (i : ℕ) → i < block.code.width → is_out (course rule block r).rounds i ≡ wrote o block.code.width i (log_of rule asks)
    out_wrote i l =
        ⊎_elim
        (λ z.
        -- not disclosed: no frame carries it
        ⊎_elim
        (λ w.
        let some = wrote-some rule o block.code.width i asks w in
        let fr = theirs.facts.frames some.0 some.1 in
        let below : (k : ℕ) → k < fr.0 → is_naming (verdict_at rule block k) ≡ true = λ k m. theirs.facts.names_all k (omega (arith, fr.1)) in
        let at = out_carried fr.0 i below (subst (λ bs. carries block.code.width bs i ≡ true) fr.2 some.2) in
        let low = stops_at rule block r (reached o (log_of rule asks)) has_settled theirs.facts.names_all in
        let same = still_out rule block fr.0 r i (omega (arith, fr.1, low)) (λ y. omega (arith, y, at.1, at.2)) in
        absurd (omega (arith, same, z, at.1, at.2)))
        (λ none. ap (λ x. not (eqb x 0)) z ∙ sym none) (cases_Bool (wrote o block.code.width i (log_of rule asks))))
        (λ ne.
        let v = get_or (course rule block r).rounds i 0 in
        let j : ℕ = v - 1 in
        let is : v ≡ suc j = omega (arith, ne) in
        let low : suc j ≤ r = omega (arith, course-bound rule block r i, is) in
        let at-round : in_round (suc j) (course rule block (suc j)).rounds i ≡ true =
        sym (round-stays rule block r j i low) ∙ eq-eqb v (suc j) is in
        let c = carries_out j i (λ k m. names-below k (omega arith)) l at-round in
        not_from_false (eqb v 0) (ne_eqb v 0 ne)
        ∙ sym (wrote_from o block.code.width i (frame_bytes (course_frame rule block other (suc j))) (log_of rule asks) (got (suc j) low) c))
        (cases_eq (get_or (course rule block r).rounds i 0) 0)

    pub counted : (course rule block r).count ≡ carried block o (log_of rule asks)
    counted = grind (arith, common_steps, count_is, tally_cong, is_out, course, out_wrote)

  accounted : Account rule block asks h o
  accounted = grind (arith, common_steps, counted, course, verdict_at, cases_lt)

pub guaranteed : Guaranteed
guaranteed rule formed block asks p =
    let both = together rule block asks p in
    record {
      agreement = agreement rule formed block asks p both;
      hiding = hidden rule block asks p;
      alice_account =
          accounted rule block block.alice block.bob (alice_seat block) (bob_seat block) asks p (omega arith) both.alice_on both.bob_on;
      bob_account =
          accounted rule block block.bob block.alice (bob_seat block) (alice_seat block) asks p (omega arith) both.bob_on both.alice_on;
    }
