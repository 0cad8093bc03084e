-- What the list of calls and replies says of one end of a block, in terms of the block's course.
use Rattle.std.proofs.Common.{◌≡◌, ℕ, ◌+◌, ◌-◌, ◌%◌, ◌<◌, ◌≤◌, true, false, cond, ◌&&◌, eqb, ◌⊎◌, List, [], ◌∷◌, get_or, sym, refl, ap, ◌∙◌, subst, inl, inr, ⊎_elim, arith}
use Rattle.std.proofs.lemmas.Bool.{cases_eq, eqb-true, eq-eqb, ne_eqb, and_parts, and_from, or_cases, both_ways}
use Rattle.codes.specs.Code.{Code, checks}
use Rattle.decoders.specs.Decoding.{Rule, Room}
use Rattle.ledger.specs.declared.line.Outcome.TheVariants.{Settled}
use Rattle.frames.specs.Format.{frame_bytes}
use Rattle.frames.specs.Writing.{laid}
use Rattle.protocol.specs.Plan.{count_kind, with_side, plan_fits}
use Rattle.protocol.specs.State.{State, Held, idle, opened, is_open, raw_bits}
use Rattle.protocol.specs.Asking.{settled, named}
use Rattle.protocol.specs.Calls.{say_call, turn_call, key_call, close_call, says, turns, writes, closes}
use Rattle.protocol.specs.Turning.{fronted}
use Rattle.protocol.specs.Runs.{Event}
use Rattle.protocol.specs.Reading.{Among, here, there, event, verdict_map, is_naming, names_at, reached, disclosed_in, discloses, opens, Wrote}
use Rattle.protocol.specs.Guarantee.{Block}
use Rattle.protocol.proofs.Opening.{FitKey}
use Rattle.protocol.proofs.Course.{course, judged_at, verdict_at}
use Rattle.protocol.proofs.CourseFrames.{course_frame}
use Rattle.protocol.proofs.Follow.{Seat, Heard, Follows}

pub among_split : {x e : Event} {log : List Event} → Among x (e ∷ log) → (x ≡ e) ⊎ Among x log
among_split here = inl refl
among_split (there a) = inr a

pub wrote_later : (h : ℕ) (bytes : List ℕ) (e : Event) (log : List Event) → Wrote h bytes log → Wrote h bytes (e ∷ log)
wrote_later h bytes e log (r, buffer, buffer', a) = (r, buffer, buffer', there a)

-- an end that has finished, or was closed and cannot be opened again
abbrev pub Ended : Held → ℕ → Type 0
Ended idle k = k ≡ 1
Ended (opened s) k = is_open s.stage.outcome ≡ false

module _ (rule : Rule) (block : Block) (h o : ℕ) (seat other : Seat) where
  abbrev pub pattern_at : ℕ → List ℕ
  pattern_at r = (judged_at rule block (course rule block r)).pattern

  -- the key as this end has it once it has settled in round r
  abbrev pub agreed_at : ℕ → ℕ → ℕ
  agreed_at r i =
      cond (eqb seat.side 0) (get_or seat.own i 0) ((get_or seat.own i 0 + get_or (pattern_at r) i 0) % 2)

  pub record Stands (s : State) (log : List Event) : Type 0 where
    pub follows : Follows rule block seat s
    pub round : s.stage.round ≡ reached h log
    pub once : opens h log ≡ 1
    pub got : (j : ℕ) → Heard s j → Wrote o (frame_bytes (course_frame rule block other j)) log

  abbrev pub HeldOn : Held → List Event → Type 0
  HeldOn idle log = Unit {0}
  HeldOn (opened s) log = Stands s log

  -- what happened, where the end has reached round r and its open was accepted k times
  pub record Facts (x : Held) (k r : ℕ) (log : List Event) : Type 0 where
    pub names_all : (j : ℕ) → j < r → is_naming (verdict_at rule block j) ≡ true
    pub maps : (j : ℕ) → j < r → disclosed_in h (j + 1) log ≡ verdict_map (verdict_at rule block j)
    pub publics : (i : ℕ) → discloses h i log ≡ true → (j : ℕ) × (j < r) × (get_or (verdict_map (verdict_at rule block j)) i 0 ≡ 1)
    pub frames : (bytes : List ℕ) (w : Wrote h bytes log)
        → (j : ℕ) × (j ≤ r) × (bytes ≡ frame_bytes (course_frame rule block seat j)) × FitKey block.code.width block.plan.kinds seat.own × (j ≡ w.0)
    pub settles : (c : Code) (room : Room) (p f : List ℕ) (w : ℕ) (p' f' : List ℕ)
        → Among (event h (turn_call c room p f w) (turns settled p' f')) log
        → Ended x k × (verdict_at rule block r ≡ settled) × (p' ≡ fronted (pattern_at r) p)
        × FitKey block.code.width block.plan.kinds seat.own × (plan_fits (with_side seat.side block.plan) block.code ≡ true)
        × Wrote o (frame_bytes (course_frame rule block other 0)) log
    pub keys : (b b' : List ℕ) → Among (event h (key_call b) (writes b')) log
        → Ended x k × (b' ≡ laid (raw_bits block.plan.kinds (agreed_at r)) b)
    pub closings : (number side raw leak : ℕ) → Among (event h close_call (closes number side raw leak Settled)) log
        → Ended x k × (leak ≡ (checks block.code - count_kind 1 block.plan.kinds) + (course rule block r).count)
        × (verdict_at rule block r ≡ settled) × ((j : ℕ) → j ≤ r → Wrote o (frame_bytes (course_frame rule block other j)) log)

  pub record Track (x : Held) (log : List Event) : Type 0 where
    pub held : HeldOn x log
    pub unopened : opens h log ≡ 0 → reached h log ≡ 0
    pub facts : Facts x (opens h log) (reached h log) log

  pub track_none : Track idle []
  track_none = grind (arith, both_ways)

  -- one more event that names nothing
  module _ (x y : Held) (e : Event) (log : List Event) (t : Track x log) (quiet : names_at h e ≡ false)
      (stays-ended : Ended x (opens h log) → Ended y (opens h (e ∷ log))) where
    same_reach : reached h (e ∷ log) ≡ reached h log
    same_reach = rw quiet (omega arith)

    pub grow : HeldOn y (e ∷ log)
        → ((bytes : List ℕ) (r : ℕ) (buffer buffer' : List ℕ) → event h (say_call r buffer) (says bytes buffer') ≡ e
        → (j : ℕ) × (j ≤ reached h log) × (bytes ≡ frame_bytes (course_frame rule block seat j))
        × FitKey block.code.width block.plan.kinds seat.own × (j ≡ r))
        → ((c : Code) (room : Room) (p f : List ℕ) (w : ℕ) (p' f' : List ℕ) → event h (turn_call c room p f w) (turns settled p' f') ≡ e
        → Ended y (opens h (e ∷ log)) × (verdict_at rule block (reached h log) ≡ settled) × (p' ≡ fronted (pattern_at (reached h log)) p)
        × FitKey block.code.width block.plan.kinds seat.own × (plan_fits (with_side seat.side block.plan) block.code ≡ true)
        × Wrote o (frame_bytes (course_frame rule block other 0)) (e ∷ log))
        → ((b b' : List ℕ) → event h (key_call b) (writes b') ≡ e
        → Ended y (opens h (e ∷ log)) × (b' ≡ laid (raw_bits block.plan.kinds (agreed_at (reached h log))) b))
        → ((number side raw leak : ℕ) → event h close_call (closes number side raw leak Settled) ≡ e
        → Ended y (opens h (e ∷ log)) × (leak ≡ (checks block.code - count_kind 1 block.plan.kinds) + (course rule block (reached h log)).count)
        × (verdict_at rule block (reached h log) ≡ settled)
        × ((j : ℕ) → j ≤ reached h log → Wrote o (frame_bytes (course_frame rule block other j)) (e ∷ log)))
        → Track y (e ∷ log)
    grow held frame-new settle-new key-new close-new =
        record {
          held = held;
          unopened = λ z. same_reach ∙ t.unopened (omega arith);
          facts = subst (λ r. Facts y (opens h (e ∷ log)) r (e ∷ log)) (sym same_reach) facts;
        }
      where
        facts : Facts y (opens h (e ∷ log)) (reached h log) (e ∷ log)
        facts =
            record {
              names_all = t.facts.names_all;
              maps = λ j l. rw quiet (t.facts.maps j l);
              publics = λ i d. t.facts.publics i (rw quiet at d);
              frames =
                  λ bytes (r, buffer, buffer', a).
                  ⊎_elim (λ is. frame-new bytes r buffer buffer' is) (λ old. t.facts.frames bytes (r, buffer, buffer', old)) (among_split a);
              settles =
                  λ c room p g w p' g' a.
                  ⊎_elim (λ is. settle-new c room p g w p' g' is)
                  (λ old. let z = t.facts.settles c room p g w p' g' old in (stays-ended z.0, z.1, z.2, z.3, z.4, wrote_later o (frame_bytes (course_frame rule block other 0)) e log z.5)) (among_split a);
              keys =
                  λ b b' a.
                  ⊎_elim (λ is. key-new b b' is) (λ old. let z = t.facts.keys b b' old in (stays-ended z.0, z.1)) (among_split a);
              closings =
                  λ number side raw leak a.
                  ⊎_elim (λ is. close-new number side raw leak is)
                  (λ old.
                  let z = t.facts.closings number side raw leak old in
                  (stays-ended z.0, z.1, z.2, λ j l. wrote_later o (frame_bytes (course_frame rule block other j)) e log (z.3 j l)))
                  (among_split a);
            }

  -- a turn that names: the end goes on to the next round
  module _ (s : State) (y : Held) (log : List Event) (t : Track (opened s) log) (c : Code) (room : Room) (p f : List ℕ) (w : ℕ) (m p' f' : List ℕ)
      (ongoing : is_open s.stage.outcome ≡ true) (names-now : verdict_at rule block (reached h log) ≡ named m) where
    abbrev turned : Event
    turned = event h (turn_call c room p f w) (turns (named m) p' f')

    own : names_at h turned ≡ true
    own = and_from (eqb h h) true (eq-eqb h h refl) refl

    pub next_reach : reached h (turned ∷ log) ≡ reached h log + 1
    next_reach = rw own refl

    not_yet : {A : Type 0} → Ended (opened s) (opens h log) → A
    not_yet e = absurd (both_ways (is_open s.stage.outcome) e ongoing)

    pub name_next : HeldOn y (turned ∷ log) → Track y (turned ∷ log)
    name_next held =
        record {
          held = held;
          unopened = λ z. absurd (omega (arith, t.held.once, z));
          facts = subst (λ r. Facts y (opens h (turned ∷ log)) r (turned ∷ log)) (sym next_reach) facts;
        }
      where
        facts : Facts y (opens h (turned ∷ log)) (reached h log + 1) (turned ∷ log)
        facts =
            record {
              names_all =
                  λ j l.
                  ⊎_elim (λ is. ap (λ x. is_naming (verdict_at rule block x)) is ∙ ap is_naming names-now)
                  (λ ne. t.facts.names_all j (omega arith)) (cases_eq j (reached h log));
              maps =
                  λ j l.
                  ⊎_elim
                  (λ is. rw (own, eq-eqb (j + 1) (reached h log + 1) (omega arith)) (sym (ap (λ x. verdict_map (verdict_at rule block x)) is ∙ ap verdict_map names-now)))
                  (λ ne.
                  rw (own, ne_eqb (j + 1) (reached h log + 1) (λ e. ne (omega arith))) (t.facts.maps j (omega arith)))
                  (cases_eq j (reached h log));
              publics =
                  λ i d.
                  ⊎_elim
                  (λ now-one.
                  let b = and_parts (names_at h turned) (eqb (get_or m i 0) 1) now-one in
                  (reached h log, omega arith, ap (λ v. get_or (verdict_map v) i 0) names-now ∙ eqb-true (get_or m i 0) 1 b.1))
                  (λ old. let z = t.facts.publics i old in (z.0, omega (arith, z.1), z.2))
                  (or_cases (names_at h turned && eqb (get_or m i 0) 1) (discloses h i log) d);
              frames =
                  λ bytes (r, buffer, buffer', a).
                  ⊎_elim (λ is. let reply = ap (λ x. x.reply) is in cc)
                  (λ old. let z = t.facts.frames bytes (r, buffer, buffer', old) in (z.0, omega (arith, z.1), z.2, z.3, z.4)) (among_split a);
              settles =
                  λ c' room' p₁ g w' p₂ g' a.
                  ⊎_elim (λ is. let reply = ap (λ x. x.reply) is in cc)
                  (λ old. not_yet (t.facts.settles c' room' p₁ g w' p₂ g' old).0) (among_split a);
              keys =
                  λ b b' a.
                  ⊎_elim (λ is. let reply = ap (λ x. x.reply) is in cc) (λ old. not_yet (t.facts.keys b b' old).0) (among_split a);
              closings =
                  λ number side raw leak a.
                  ⊎_elim (λ is. let reply = ap (λ x. x.reply) is in cc)
                  (λ old. not_yet (t.facts.closings number side raw leak old).0) (among_split a);
            }
