-- Every run keeps both ends of a block on the block's course.
use Rattle.std.proofs.Common.{◌≡◌, ℕ, ◌+◌, ◌-◌, ◌^◌, ◌<◌, ◌≤◌, Bool, true, false, cond, eqb, ltb, List, ◌∷◌, length, sym, refl, ap, ◌∙◌, subst, inl, inr, ⊎_elim, arith}
use Rattle.std.proofs.lemmas.Grind.{common_steps}
use Rattle.std.proofs.lemmas.Bool.{cases_lt, eq-eqb, ne_eqb, ltb-false, and_from, and_left, and_right, both_ways}
use Rattle.codes.specs.Code.{Code, checks}
use Rattle.codes.specs.Admission.{Admissible}
use Rattle.decoders.specs.Decoding.{Rule, Room}
use Rattle.ledger.specs.Lines.{is_settled}
use Rattle.ledger.specs.declared.line.Outcome.{Outcome}
use Rattle.ledger.specs.declared.line.Outcome.TheVariants.{Open, Settled, Spent, Clashed}
use Rattle.frames.specs.Format.{frame_bytes}
use Rattle.frames.specs.Writing.{laid}
use Rattle.protocol.specs.Plan.{Plan, with_side, count_kind, plan_fits, has_kind}
use Rattle.protocol.specs.State.{State, Held, idle, opened, begun, frame_of, agreed_bit, is_open, raw_bits, leak_of}
use Rattle.protocol.specs.Asking.{Verdict, settled, clashed, spent, named}
use Rattle.protocol.specs.Calls.{Call, Done, Reply, open_call, say_call, hear_call, turn_call, key_call, close_call, refused, no_memory, begins, says, hears, turns, writes, closes}
use Rattle.protocol.specs.Hearing.{hear_done, stays}
use Rattle.protocol.specs.Turning.{turn_done, taken, after, judged_now, fronted, concluded, disclosing}
use Rattle.protocol.specs.Steps.{step_of, open_done, say_done, key_done, told}
use Rattle.protocol.specs.Runs.{Event}
use Rattle.protocol.specs.Reading.{event, names, is_naming, names_at, reached, opens, is_begin, Wrote}
use Rattle.protocol.specs.Guarantee.{Block}
use Rattle.protocol.specs.declared.terms.Hearing.{Hearing}
use Rattle.protocol.proofs.Hiding.{Silent, Opened, taken_up, turned_away, open_cases}
use Rattle.protocol.proofs.Opening.{FitKey}
use Rattle.protocol.proofs.Words.{gathered_cong}
use Rattle.protocol.proofs.Course.{course, judged_at, verdict_at}
use Rattle.protocol.proofs.CourseFrames.{course_frame, frame_is, course-read}
use Rattle.protocol.proofs.Follow.{Seat, SeatOf, Follows, Concludes, judges_course}
use Rattle.protocol.proofs.Preserve.{begun-follows, after-follows}
use Rattle.protocol.proofs.Listen.{Heeds, accepts, ignores, hear_heeds, Listened, hear-course}
use Rattle.protocol.proofs.Track.{Ended, HeldOn, Stands, Track, grow, name_next, next_reach, agreed_at, wrote_later}

-- how saying, turning and writing the key end
pub data Said (s : State) (r : ℕ) (d : Done State) : Type 0 where
  not_said : d.held ≡ s → Silent d.reply → Said s r d
  is_said : (buffer' : List ℕ) → r ≤ s.stage.round → d ≡ stays s (says (frame_bytes (frame_of s r)) buffer') → Said s r d

pub say_cases : (s : State) (r : ℕ) (buffer : List ℕ) → Said s r (say_done s r buffer)
unfolding say_done
say_cases s r buffer = go (ltb s.stage.round r) refl (ltb (length buffer) (length (frame_bytes (frame_of s r))))
  where
    go : (t : Bool) → ltb s.stage.round r ≡ t → (u : Bool)
        → Said s r
        (cond t (stays s (refused 11 0))
        (cond u (stays s (refused 12 (length (frame_bytes (frame_of s r)))))
        (stays s (says (frame_bytes (frame_of s r)) (laid (frame_bytes (frame_of s r)) buffer)))))
    go true e u = not_said refl tt
    go false e true = not_said refl tt
    go false e false = is_said _ (ltb-false s.stage.round r e) refl

pub data Turned (rule : Rule) (s : State) (code : Code) (p f : List ℕ) (d : Done State) : Type 0 where
  not_turned : d.held ≡ s → Silent d.reply → Turned rule s code p f d
  is_turned : is_open s.stage.outcome ≡ true → s.stage.heard ≡ true → d ≡ taken s (judged_now rule s code) p f → Turned rule s code p f d

pub turn_cases : (rule : Rule) (s : State) (code : Code) (room : Room) (p f : List ℕ) (w : ℕ) → Turned rule s code p f (turn_done rule s code room p f w)
unfolding turn_done
turn_cases rule s code room p f w = grind (arith, common_steps)

pub data Keyed (s : State) (b : List ℕ) (d : Done State) : Type 0 where
  not_keyed : d.held ≡ s → Silent d.reply → Keyed s b d
  is_keyed : is_settled s.stage.outcome ≡ true → d ≡ stays s (writes (laid (raw_bits s.kinds (agreed_bit s)) b)) → Keyed s b d

pub key_cases : (s : State) (b : List ℕ) → Keyed s b (key_done s b)
unfolding key_done
key_cases s b = grind (arith, common_steps)

module _ (rule : Rule) (block : Block) (h o : ℕ) (seat other : Seat) where
  abbrev pub T : Held → List Event → Type 0
  T x log = Track rule block h o seat other x log

  -- what an open end holds does not depend on events of others
  stands_later : (s : State) (e : Event) (log : List Event) → names_at h e ≡ false → opens h (e ∷ log) ≡ opens h log
      → Stands rule block h o seat other s log → Stands rule block h o seat other s (e ∷ log)
  stands_later s e log quiet same-opens t = grind (arith, common_steps, wrote_later, course_frame)

  held_later : (x : Held) (e : Event) (log : List Event) → names_at h e ≡ false → opens h (e ∷ log) ≡ opens h log
      → HeldOn rule block h o seat other x log → HeldOn rule block h o seat other x (e ∷ log)
  held_later idle e log quiet same-opens t = tt
  held_later (opened s) e log quiet same-opens t = stands_later s e log quiet same-opens t

  ended_later : (x : Held) (e : Event) (log : List Event) → opens h (e ∷ log) ≡ opens h log
      → Ended x (opens h log) → Ended x (opens h (e ∷ log))
  ended_later idle e log same-opens t = same-opens ∙ t
  ended_later (opened s) e log same-opens t = t

  -- a call of another end
  pub track_other : (x : Held) (e : Event) (log : List Event) → (e.handle ≡ h → ⊥) → T x log → T x (e ∷ log)
  track_other x e log ne t =
      let off = ne_eqb e.handle h ne in
      let quiet : names_at h e ≡ false = and_left (eqb e.handle h) (names e.reply) off in
      let same-opens : opens h (e ∷ log) ≡ opens h log = rw off (omega arith) in
      grow rule block h o seat other x x e log t quiet (ended_later x e log same-opens) (held_later x e log quiet same-opens t.held)
      (λ bytes r buffer buffer' is. absurd (ne (sym (ap (λ z. z.handle) is))))
      (λ c room p f w p' f' is. absurd (ne (sym (ap (λ z. z.handle) is))))
      (λ b b' is. absurd (ne (sym (ap (λ z. z.handle) is))))
      (λ number side raw leak is. absurd (ne (sym (ap (λ z. z.handle) is))))

  silent_tells : (r : Reply) → Silent r → (names r ≡ false) × (is_begin r ≡ false)
  silent_tells (refused number place) z = (refl, refl)
  silent_tells no_memory z = (refl, refl)
  silent_tells begins z = absurd z
  silent_tells (says bytes buffer) z = absurd z
  silent_tells (hears what) z = (refl, refl)
  silent_tells (turns verdict p f) z = absurd z
  silent_tells (writes buffer) z = absurd z
  silent_tells (closes number side raw leak outcome) z = absurd z

  track_silent : (x y : Held) (call : Call) (r : Reply) (log : List Event) → Silent r → T x log
      → (Ended x (opens h log) → Ended y (opens h log))
      → HeldOn rule block h o seat other y (event h call r ∷ log)
      → T y (event h call r ∷ log)
  track_silent x y call r log quiet t keep held =
      let same-opens : opens h (event h call r ∷ log) ≡ opens h log = rw (and_right (eqb h h) (is_begin r) (silent_tells r quiet).1) (omega arith) in
      grow rule block h o seat other x y (event h call r) log t (and_right (eqb h h) (names r) (silent_tells r quiet).0)
      (λ z. subst (λ k. Ended y k) (sym same-opens) (keep z)) held
      (λ bytes k buffer buffer' is. absurd (subst Silent (sym (ap (λ z. z.reply) is)) quiet))
      (λ c room p f w p' f' is. absurd (subst Silent (sym (ap (λ z. z.reply) is)) quiet))
      (λ b b' is. absurd (subst Silent (sym (ap (λ z. z.reply) is)) quiet))
      (λ number side raw leak is. absurd (subst Silent (sym (ap (λ z. z.reply) is)) quiet))

  module _ (of : SeatOf block seat) (whose : other.own ≡ seat.other)
      (matrix : Admissible block.code.width (checks block.code) block.code.positions block.code.ends)
      (number : block.plan.block < 2 ^ 32) (side : other.side < 2) where
    -- what is known of the frames of the other end
    abbrev pub OtherFrames : List Event → Type 0
    OtherFrames log =
        (bytes : List ℕ) → Wrote o bytes log
        → (j : ℕ) × ((i : ℕ) → i < j → is_naming (verdict_at rule block i) ≡ true) × (bytes ≡ frame_bytes (course_frame rule block other j))
        × FitKey block.code.width block.plan.kinds other.own

    -- what the premises say of one call and its reply
    pub record Allowed (call : Call) (reply : Reply) (log : List Event) : Type 0 where
      pub opens_as : (p : Plan) (c : Code) (k : List ℕ) (memory : Bool) → call ≡ open_call p c k memory → reply ≡ begins
          → (p ≡ with_side seat.side block.plan) × (c ≡ block.code) × (k ≡ seat.own)
      pub once : opens h (event h call reply ∷ log) ≤ 1
      pub turns_with : (c : Code) (room : Room) (p f : List ℕ) (w : ℕ) (v : Verdict) (p' f' : List ℕ)
          → call ≡ turn_call c room p f w → reply ≡ turns v p' f' → c ≡ block.code
      pub hears_from : (bytes : List ℕ) (what : Hearing) → call ≡ hear_call bytes → reply ≡ hears what → Wrote o bytes log

    idle_silent : (call : Call) (r : Reply) (log : List Event) → Silent r → T idle log → T idle (event h call r ∷ log)
    idle_silent call r log quiet t = track_silent idle idle call r log quiet t (λ e. e) tt

    -- a reply that tells nothing, and the end as it was
    open_silent : (s : State) (call : Call) (r : Reply) (log : List Event) → Silent r → T (opened s) log → T (opened s) (event h call r ∷ log)
    open_silent s call r log quiet t =
        track_silent (opened s) (opened s) call r log quiet t (λ e. e)
        (stands_later s (event h call r) log (and_right (eqb h h) (names r) (silent_tells r quiet).0)
        (rw (and_right (eqb h h) (is_begin r) (silent_tells r quiet).1) (omega arith)) t.held)

    begun_on : (p : Plan) (c : Code) (key : List ℕ) → p ≡ with_side seat.side block.plan → c ≡ block.code → key ≡ seat.own
        → plan_fits p c ≡ true → FitKey c.width p.kinds key → Follows rule block seat (begun p c key)
    begun_on p c key e f g fits fit =
        let fits' : plan_fits (with_side seat.side block.plan) block.code ≡ true = rw (e, f) at fits in
        let fit' : FitKey block.code.width block.plan.kinds seat.own = rw (e, f, g) at fit in
        rw (e, f, g) (begun-follows rule block seat fits' fit')

    idle-begins : (p : Plan) (c : Code) (key : List ℕ) (memory : Bool) (log : List Event) → T idle log
        → opens h (event h (open_call p c key memory) begins ∷ log) ≤ 1 → Follows rule block seat (begun p c key)
        → T (opened (begun p c key)) (event h (open_call p c key memory) begins ∷ log)
    unfolding begun
    idle-begins p c key memory log t once f =
        let e = event h (open_call p c key memory) begins in
        let inc : opens h (e ∷ log) ≡ opens h log + 1 = rw (and_from (eqb h h) true (eq-eqb h h refl) refl) refl in
        let none : opens h log ≡ 0 = omega arith in
        let quiet : names_at h e ≡ false = and_right (eqb h h) (names begins) refl in
        grow rule block h o seat other idle (opened (begun p c key)) e log t quiet (λ z. absurd (omega (arith, z, none)))
        (record {
          follows = f;
          round = sym (t.unopened none) ∙ sym (rw quiet (omega arith));
          once = omega arith;
          got = λ j x. absurd (⊎_elim (λ l. omega (arith, l)) (λ y. both_ways false refl y.1) x);
        })
        (λ bytes r buffer buffer' is. let reply = ap (λ x. x.reply) is in cc)
        (λ c' room p' f' w p₁ f₁ is. let reply = ap (λ x. x.reply) is in cc)
        (λ b b' is. let reply = ap (λ x. x.reply) is in cc)
        (λ nb sd raw leak is. let reply = ap (λ x. x.reply) is in cc)

    idle-opens : (p : Plan) (c : Code) (key : List ℕ) (memory : Bool) (log : List Event) → T idle log
        → Allowed (open_call p c key memory) (open_done p c key memory).reply log
        → T (open_done p c key memory).held (event h (open_call p c key memory) (open_done p c key memory).reply ∷ log)
    idle-opens p c key memory log t allowed = go (open_cases p c key memory)
      where
        go : Opened p c key memory → T (open_done p c key memory).held (event h (open_call p c key memory) (open_done p c key memory).reply ∷ log)
        go (turned_away reply quiet none keep is) = rw is (idle_silent (open_call p c key memory) reply log quiet t)
        go (taken_up fits fit m is) =
            let w = allowed.opens_as p c key memory refl (ap (λ d. d.reply) is) in
            rw is (idle-begins p c key memory log t (rw is at allowed.once) (begun_on p c key w.0 w.1 w.2 fits fit))

    -- an end that says
    open_says : (s : State) (r : ℕ) (buffer : List ℕ) (log : List Event) → T (opened s) log
        → T (opened (say_done s r buffer).held) (event h (say_call r buffer) (say_done s r buffer).reply ∷ log)
    open_says s r buffer log t = go (say_cases s r buffer)
      where
        go : Said s r (say_done s r buffer) → T (opened (say_done s r buffer).held) (event h (say_call r buffer) (say_done s r buffer).reply ∷ log)
        go (not_said same_state quiet) = rw same_state (open_silent s (say_call r buffer) (say_done s r buffer).reply log quiet t)
        go (is_said buffer' l is) =
            let bytes = frame_bytes (frame_of s r) in
            let e = event h (say_call r buffer) (says bytes buffer') in
            let quiet : names_at h e ≡ false = and_right (eqb h h) (names (says bytes buffer')) refl in
            let same-opens : opens h (e ∷ log) ≡ opens h log = rw (and_right (eqb h h) (is_begin (says bytes buffer')) refl) (omega arith) in
            rw is
            (grow rule block h o seat other (opened s) (opened s) e log t quiet (λ z. z) (stands_later s e log quiet same-opens t.held)
            (λ bytes₁ r₁ b b' is₁.
            let reply = ap (λ x. x.reply) is₁ in
            let call = ap (λ x. x.call) is₁ in
            let same_bytes : bytes₁ ≡ bytes = cc in
            let same-round : r ≡ r₁ = cc in
            (r, omega (arith, t.held.round), same_bytes ∙ ap frame_bytes (frame_is rule block seat s t.held.follows r l), t.held.follows.began.key_fits, same-round))
            (λ c' room p' f' w p₁ f₁ is₁. let reply = ap (λ x. x.reply) is₁ in cc)
            (λ b b' is₁. let reply = ap (λ x. x.reply) is₁ in cc)
            (λ nb sd raw leak is₁. let reply = ap (λ x. x.reply) is₁ in cc))

    -- an end that hears
    open_hears : (s : State) (bytes : List ℕ) (log : List Event) → T (opened s) log → OtherFrames log
        → Allowed (hear_call bytes) (hear_done s bytes).reply log
        → T (opened (hear_done s bytes).held) (event h (hear_call bytes) (hear_done s bytes).reply ∷ log)
    open_hears s bytes log t frames allowed = go (hear_heeds s bytes)
      where
        go : Heeds s (hear_done s bytes) → T (opened (hear_done s bytes).held) (event h (hear_call bytes) (hear_done s bytes).reply ∷ log)
        go (ignores same_state quiet) = rw same_state (open_silent s (hear_call bytes) (hear_done s bytes).reply log quiet t)
        go (accepts what is) =
            let from = allowed.hears_from bytes what refl is in
            let fr = frames bytes from in
            let j = fr.0 in
            let f = t.held.follows in
            let reads = course-read rule block other matrix number side j fr.1 in
            let heard : Listened rule block seat s (hear_done s bytes).held j =
            subst (λ bs. Listened rule block seat s (hear_done s bs).held j) (sym fr.2)
            (hear-course rule block seat other s f whose fr.3 j reads) in
            let sent : Wrote o (frame_bytes (course_frame rule block other j)) log = subst (λ bs. Wrote o bs log) fr.2 from in
            let e = event h (hear_call bytes) (hears what) in
            let quiet : names_at h e ≡ false = and_right (eqb h h) (names (hears what)) refl in
            let same-opens : opens h (e ∷ log) ≡ opens h log = rw (and_right (eqb h h) (is_begin (hears what)) refl) (omega arith) in
            rw is
            (track_silent (opened s) (opened (hear_done s bytes).held) (hear_call bytes) (hears what) log tt t
            (λ z. ap is_open heard.outcome ∙ z)
            (record {
              follows = heard.follows;
              round = heard.round ∙ t.held.round ∙ sym (rw quiet (omega arith));
              once = same-opens ∙ t.held.once;
              got =
                  λ i x.
                  ⊎_elim (λ old. wrote_later o (frame_bytes (course_frame rule block other i)) e log (t.held.got i old))
                  (λ same-round. wrote_later o (frame_bytes (course_frame rule block other i)) e log (subst (λ k. Wrote o (frame_bytes (course_frame rule block other k)) log) (sym same-round) sent))
                  (heard.fresh i x);
            }))

    module _ (s : State) (c : Code) (room : Room) (p f : List ℕ) (w : ℕ) (log : List Event) (t : T (opened s) log)
        (ongoing : is_open s.stage.outcome ≡ true) (heard : s.stage.heard ≡ true) where
      abbrev present : List ℕ
      present = (judged_at rule block (course rule block s.stage.round)).pattern

      -- a turn that finishes
      finish : (outcome : Outcome) (v : Verdict) (f' : List ℕ) → is_open outcome ≡ false → is_naming v ≡ false
          → verdict_at rule block s.stage.round ≡ v → Follows rule block seat (concluded s outcome present)
          → T (opened (concluded s outcome present)) (event h (turn_call c room p f w) (turns v (fronted present p) f') ∷ log)
      unfolding concluded
      finish outcome v f' over unnamed e follows =
          let ev = event h (turn_call c room p f w) (turns v (fronted present p) f') in
          let quiet : names_at h ev ≡ false = and_right (eqb h h) (is_naming v) unnamed in
          let same-opens : opens h (ev ∷ log) ≡ opens h log = rw (and_right (eqb h h) false refl) (omega arith) in
          let st = stands_later s ev log quiet same-opens t.held in
          grow rule block h o seat other (opened s) (opened (concluded s outcome present)) ev log t quiet
          (λ z. absurd (both_ways (is_open s.stage.outcome) z ongoing))
          (record { follows = follows; round = st.round; once = st.once; got = st.got })
          (λ bytes r b b' is. let reply = ap (λ x. x.reply) is in cc)
          (λ c₁ room₁ p₁ f₁ w₁ p' f₂ is.
          let reply = ap (λ x. x.reply) is in
          let call = ap (λ x. x.call) is in
          let same-v : v ≡ settled = cc in
          let same-p : p₁ ≡ p = cc in
          let front : p' ≡ fronted present p = cc in
          let round = t.held.round in (
            over,
            ap (verdict_at rule block) (sym round) ∙ e ∙ same-v,
            front ∙ ap (fronted present) (sym same-p) ∙ ap (λ k. fronted (judged_at rule block (course rule block k)).pattern p₁) round,
            t.held.follows.began.key_fits,
            t.held.follows.began.fits,
            wrote_later o (frame_bytes (course_frame rule block other 0)) ev log
                (t.held.got 0 (⊎_elim (λ lt. inl lt) (λ ge. inr (omega arith, heard)) (cases_lt 0 s.stage.round))),
          ))
          (λ b b' is. let reply = ap (λ x. x.reply) is in cc)
          (λ nb sd raw leak is. let reply = ap (λ x. x.reply) is in cc)

      -- a turn that names
      disclose : (m f' : List ℕ) → verdict_at rule block s.stage.round ≡ named m → Follows rule block seat (disclosing s m present)
          → T (opened (disclosing s m present)) (event h (turn_call c room p f w) (turns (named m) (fronted present p) f') ∷ log)
      unfolding disclosing
      disclose m f' e follows =
          let now-named : verdict_at rule block (reached h log) ≡ named m = ap (verdict_at rule block) (sym t.held.round) ∙ e in
          let ev = event h (turn_call c room p f w) (turns (named m) (fronted present p) f') in
          let reach = next_reach rule block h o seat other s (opened (disclosing s m present)) log t c room p f w m (fronted present p) f' ongoing now-named in
          let same-opens : opens h (ev ∷ log) ≡ opens h log = rw (and_right (eqb h h) false refl) (omega arith) in
          name_next rule block h o seat other s (opened (disclosing s m present)) log t c room p f w m (fronted present p) f' ongoing now-named
          (record {
            follows = follows;
            round = ap (λ k. k + 1) t.held.round ∙ sym reach;
            once = same-opens ∙ t.held.once;
            got =
                λ j x.
                wrote_later o (frame_bytes (course_frame rule block other j)) ev log
                (t.held.got j
                (⊎_elim
                (λ l. ⊎_elim (λ lt. inl lt) (λ ge. inr (omega arith, heard)) (cases_lt j s.stage.round))
                (λ y. absurd (both_ways false refl y.1)) x));
          })

      decided : (v : Verdict) (f' : List ℕ) → verdict_at rule block s.stage.round ≡ v
          → T (opened (after s v present)) (event h (turn_call c room p f w) (turns v (fronted present p) f') ∷ log)
      decided settled f' e = finish Settled settled f' refl refl e (after-follows rule block seat s t.held.follows of heard settled e)
      decided clashed f' e = finish Clashed clashed f' refl refl e (after-follows rule block seat s t.held.follows of heard clashed e)
      decided spent f' e = finish Spent spent f' refl refl e (after-follows rule block seat s t.held.follows of heard spent e)
      decided (named m) f' e = disclose m f' e (after-follows rule block seat s t.held.follows of heard (named m) e)

    -- a turn that is taken decides what the course decides
    open_turns : (s : State) (c : Code) (room : Room) (p f : List ℕ) (w : ℕ) (log : List Event) → T (opened s) log
        → Allowed (turn_call c room p f w) (turn_done rule s c room p f w).reply log
        → T (opened (turn_done rule s c room p f w).held) (event h (turn_call c room p f w) (turn_done rule s c room p f w).reply ∷ log)
    open_turns s c room p f w log t allowed = go (turn_cases rule s c room p f w)
      where
        go : Turned rule s c p f (turn_done rule s c room p f w)
            → T (opened (turn_done rule s c room p f w).held) (event h (turn_call c room p f w) (turn_done rule s c room p f w).reply ∷ log)
        go (not_turned same_state quiet) = rw same_state (open_silent s (turn_call c room p f w) (turn_done rule s c room p f w).reply log quiet t)
        go (is_turned ongoing heard is) =
            let same_code = allowed.turns_with c room p f w _ _ _ refl (ap (λ d. d.reply) is) in
            let judged-is : judged_now rule s c ≡ judged_at rule block (course rule block s.stage.round) =
            ap (judged_now rule s) same_code ∙ judges_course rule block seat of s t.held.follows heard in
            rw (is, judged-is) (decided s c room p f w log t ongoing heard (verdict_at rule block s.stage.round) _ refl)

    -- a settled end that writes its key
    open_keys : (s : State) (b : List ℕ) (log : List Event) → T (opened s) log
        → T (opened (key_done s b).held) (event h (key_call b) (key_done s b).reply ∷ log)
    open_keys s b log t = go (key_cases s b)
      where
        settled-ended : (x : Outcome) → is_settled x ≡ true → is_open x ≡ false
        settled-ended Open e = absurd (both_ways false refl e)
        settled-ended Settled e = refl
        settled-ended Spent e = refl
        settled-ended Clashed e = refl

        go : Keyed s b (key_done s b) → T (opened (key_done s b).held) (event h (key_call b) (key_done s b).reply ∷ log)
        go (not_keyed same_state quiet) = rw same_state (open_silent s (key_call b) (key_done s b).reply log quiet t)
        go (is_keyed has_settled is) =
            let over = settled-ended s.stage.outcome has_settled in
            let f = t.held.follows in
            let side-is = ap (λ x. x.side) f.began.terms_are in
            let key-is = f.began.key_is in
            let pattern_is = (f.ended over).2 in
            let round_is = t.held.round in
            let agreed : (i : ℕ) → agreed_bit s i ≡ agreed_at rule block h o seat other (reached h log) i = λ i. cc in
            let bits : raw_bits s.kinds (agreed_bit s) ≡ raw_bits block.plan.kinds (agreed_at rule block h o seat other (reached h log)) =
            gathered_cong (has_kind 0 s.kinds) (agreed_bit s) (agreed_at rule block h o seat other (reached h log)) (length s.kinds) (λ i l e. agreed i)
            ∙ ap (λ ks. raw_bits ks (agreed_at rule block h o seat other (reached h log))) f.began.kinds_are in
            let out = laid (raw_bits s.kinds (agreed_bit s)) b in
            let ev = event h (key_call b) (writes out) in
            let quiet : names_at h ev ≡ false = and_right (eqb h h) false refl in
            let same-opens : opens h (ev ∷ log) ≡ opens h log = rw (and_right (eqb h h) false refl) (omega arith) in
            rw is
            (grow rule block h o seat other (opened s) (opened s) ev log t quiet (λ z. z) (stands_later s ev log quiet same-opens t.held)
            (λ bytes r b₁ b' is₁. let reply = ap (λ x. x.reply) is₁ in cc)
            (λ c₁ room₁ p₁ f₁ w₁ p' f₂ is₁. let reply = ap (λ x. x.reply) is₁ in cc)
            (λ b₁ b' is₁.
            let reply = ap (λ x. x.reply) is₁ in
            let call = ap (λ x. x.call) is₁ in
            let same-b : b₁ ≡ b = cc in
            let same_out : b' ≡ out = cc in
            (over, same_out ∙ ap (λ xs. laid xs b) bits ∙ ap (laid (raw_bits block.plan.kinds (agreed_at rule block h o seat other (reached h log)))) (sym same-b)))
            (λ nb sd raw leak is₁. let reply = ap (λ x. x.reply) is₁ in cc))

    -- an end that closes
    open_closes : (s : State) (log : List Event) → T (opened s) log → T idle (event h close_call (told s) ∷ log)
    open_closes s log t =
        let f = t.held.follows in
        let ev = event h close_call (told s) in
        let quiet : names_at h ev ≡ false = and_right (eqb h h) false refl in
        let same-opens : opens h (ev ∷ log) ≡ opens h log = rw (and_right (eqb h h) false refl) (omega arith) in
        let shut : opens h (ev ∷ log) ≡ 1 = same-opens ∙ t.held.once in
        grow rule block h o seat other (opened s) idle ev log t quiet (λ z. shut) tt
        (λ bytes r b₁ b' is₁. let reply = ap (λ x. x.reply) is₁ in cc)
        (λ c₁ room₁ p₁ f₁ w₁ p' f₂ is₁. let reply = ap (λ x. x.reply) is₁ in cc)
        (λ b₁ b' is₁. let reply = ap (λ x. x.reply) is₁ in cc)
        (λ nb sd raw leak is₁.
        let reply = ap (λ x. x.reply) is₁ in
        let has_settled : s.stage.outcome ≡ Settled = cc in
        let leak-is : leak ≡ leak_of s = cc in
        let over : is_open s.stage.outcome ≡ false = ap is_open has_settled in
        let end = f.ended over in
        let checks-is = ap (λ x. x.checks) f.began.terms_are in
        let kinds-is = f.began.kinds_are in
        let count_is = f.on.count_is in
        let round_is = t.held.round in
        let leak-of : leak_of s ≡ (checks block.code - count_kind 1 block.plan.kinds) + (course rule block (reached h log)).count = cc in (
          shut,
          leak-is ∙ leak-of,
          ap (verdict_at rule block) (sym round_is) ∙ subst (λ x. Concludes x (verdict_at rule block s.stage.round)) has_settled end.1,
          λ j l.
              wrote_later o (frame_bytes (course_frame rule block other j)) ev log
              (t.held.got j (⊎_elim (λ lt. inl lt) (λ ge. inr (omega arith, end.0)) (cases_lt j s.stage.round))),
        ))

    -- every call of the end
    pub track_own : (x : Held) (call : Call) (log : List Event) → T x log → OtherFrames log
        → Allowed call (step_of rule x call).reply log
        → T (step_of rule x call).held (event h call (step_of rule x call).reply ∷ log)
    track_own idle (open_call p c key memory) log t frames allowed = idle-opens p c key memory log t allowed
    track_own idle (say_call r buffer) log t frames allowed = idle_silent (say_call r buffer) (refused 10 0) log tt t
    track_own idle (hear_call bytes) log t frames allowed = idle_silent (hear_call bytes) (refused 10 0) log tt t
    track_own idle (turn_call c room p f w) log t frames allowed = idle_silent (turn_call c room p f w) (refused 10 0) log tt t
    track_own idle (key_call buffer) log t frames allowed = idle_silent (key_call buffer) (refused 10 0) log tt t
    track_own idle close_call log t frames allowed = idle_silent close_call (refused 10 0) log tt t
    track_own (opened s) (open_call p c key memory) log t frames allowed = open_silent s (open_call p c key memory) (refused 7 0) log tt t
    track_own (opened s) (say_call r buffer) log t frames allowed = open_says s r buffer log t
    track_own (opened s) (hear_call bytes) log t frames allowed = open_hears s bytes log t frames allowed
    track_own (opened s) (turn_call c room p f w) log t frames allowed = open_turns s c room p f w log t allowed
    track_own (opened s) (key_call buffer) log t frames allowed = open_keys s buffer log t
    track_own (opened s) close_call log t frames allowed = open_closes s log t
