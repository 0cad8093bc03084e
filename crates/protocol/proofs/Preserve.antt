-- Each call of an end that follows the course leaves it following.
use Rattle.std.proofs.Common.{◌≡◌, ℕ, suc, ◌+◌, ◌<◌, ◌≤◌, Bool, true, false, cond, eqb, List, length, get_or, sum, sym, refl, ap, ◌∙◌, inl, ⊎_elim, arith}
use Rattle.std.proofs.lemmas.Grind.{common_steps}
use Rattle.std.proofs.lemmas.List.{length-replicate, get_or_past}
use Rattle.std.proofs.lemmas.List.FromFn.{length-map-range_with_len, get_or-map-range_with_len}
use Rattle.std.proofs.lemmas.Bool.{cases_lt, cases_eq, eqb-false, both_ways}
use Rattle.codes.specs.Syndrome.{syndrome}
use Rattle.decoders.specs.Decoding.{Rule}
use Rattle.ledger.specs.declared.line.Outcome.{Outcome}
use Rattle.ledger.specs.declared.line.Outcome.TheVariants.{Settled, Spent, Clashed}
use Rattle.runs.specs.Bits.{bit_of}
use Rattle.frames.specs.Writing.{gathered, in_round}
use Rattle.protocol.specs.Counting.{list_of, tally}
use Rattle.protocol.specs.Plan.{with_side, plan_fits}
use Rattle.protocol.specs.State.{State, begun, is_open}
use Rattle.protocol.specs.Asking.{Verdict, settled, clashed, spent, named}
use Rattle.protocol.specs.Turning.{after, concluded, disclosing, marked}
use Rattle.protocol.specs.Hearing.{heard_syndrome, heard_values, spread}
use Rattle.protocol.specs.Reading.{is_naming}
use Rattle.protocol.specs.Guarantee.{Block}
use Rattle.protocol.proofs.Opening.{FitKey}
use Rattle.protocol.proofs.Course.{course, judged_at, verdict_at, course_next, course-length, course-bound, zero_at, marked_at, marked-length}
use Rattle.protocol.proofs.CourseFrames.{gathered_at}
use Rattle.protocol.proofs.Follow.{Seat, SeatOf, Heard, Concludes, Follows, heard-bit, heard-syndrome}

module _ (rule : Rule) (block : Block) (seat : Seat) where
  pub begun-follows : plan_fits (with_side seat.side block.plan) block.code ≡ true
      → FitKey block.code.width block.plan.kinds seat.own
      → Follows rule block seat (begun (with_side seat.side block.plan) block.code seat.own)
  unfolding begun course
  begun-follows fits key = grind (arith, common_steps, both_ways, length-replicate, zero_at)

  module _ (s : State) (f : Follows rule block seat s) where
    -- a finish
    pub concluded-follows : (outcome : Outcome) → s.stage.heard ≡ true
        → Concludes outcome (verdict_at rule block s.stage.round)
        → Follows rule block seat (concluded s outcome (judged_at rule block (course rule block s.stage.round)).pattern)
    unfolding concluded
    concluded-follows outcome heard c = grind (arith, common_steps)

    pub disclosing-follows : SeatOf block seat → (m pattern : List ℕ) → s.stage.heard ≡ true
        → verdict_at rule block s.stage.round ≡ named m → Follows rule block seat (disclosing s m pattern)
    unfolding disclosing
    disclosing-follows of m pattern heard e =
        record {
          began = f.began;
          on = record { rounds_are = rounds; count_is = count; earlier = earlier };
          their_syndrome = λ h. heard-syndrome rule block seat of s f heard;
          their_length = f.their_length;
          their_bits = bits;
          ended = λ x. absurd (both_ways true x refl);
        }
      where
        k : s.stage.round + 1 ≡ suc s.stage.round
        k = omega arith

        rounds : marked (s.stage.round + 1) m s.rounds ≡ (course rule block (s.stage.round + 1)).rounds
        rounds = grind (arith, common_steps, k, course_next, course)

        count : s.stage.named + sum m ≡ (course rule block (s.stage.round + 1)).count
        count =
            ap (λ x. x + sum m) f.on.count_is ∙ sym (ap (λ p. p.count) (course_next rule block s.stage.round m e))
            ∙ sym (ap (λ x. (course rule block x).count) k)

        earlier : (j : ℕ) → j < s.stage.round + 1 → is_naming (verdict_at rule block j) ≡ true
        earlier j l = grind (arith, common_steps, verdict_at, cases_eq)

        bits : (i : ℕ) → (get_or (marked (s.stage.round + 1) m s.rounds) i 0 ≡ 0 → ⊥)
            → Heard (disclosing s m pattern) (get_or (marked (s.stage.round + 1) m s.rounds) i 0)
            → get_or s.their_bits i 0 ≡ get_or seat.other i 0
        bits i ne h =
            ⊎_elim
            (λ l. go (eqb (get_or m i 0) 1) refl (marked_at (s.stage.round + 1) m s.rounds i l))
            (λ past.
            absurd
            (ne (get_or_past (marked (s.stage.round + 1) m s.rounds) i 0 (rw (marked-length (s.stage.round + 1) m s.rounds) past))))
            (cases_lt i (length s.rounds))
          where
            low : get_or (marked (s.stage.round + 1) m s.rounds) i 0 < s.stage.round + 1
            low = ⊎_elim (λ l. l) (λ x. absurd (both_ways false refl x.1)) h

            go : (t : Bool) → eqb (get_or m i 0) 1 ≡ t
                → get_or (marked (s.stage.round + 1) m s.rounds) i 0 ≡ cond (eqb (get_or m i 0) 1) (s.stage.round + 1) (get_or s.rounds i 0)
                → get_or s.their_bits i 0 ≡ get_or seat.other i 0
            go true t at = let here : get_or (marked (s.stage.round + 1) m s.rounds) i 0 ≡ s.stage.round + 1 = at ∙ rw t in absurd (omega (arith, here, low))
            go false t at = heard-bit rule block seat of s f heard i (λ z. ne (at ∙ rw t z))

    -- a turn
    pub after-follows : SeatOf block seat → s.stage.heard ≡ true → (v : Verdict) → verdict_at rule block s.stage.round ≡ v
        → Follows rule block seat (after s v (judged_at rule block (course rule block s.stage.round)).pattern)
    after-follows of heard settled e = concluded-follows Settled heard e
    after-follows of heard clashed e = concluded-follows Clashed heard e
    after-follows of heard spent e = concluded-follows Spent heard e
    after-follows of heard (named m) e = disclosing-follows of m _ heard e

    -- the present round's frame is heard: the other end's syndrome
    pub syndrome-follows : s.stage.round ≡ 0 → is_open s.stage.outcome ≡ true
        → Follows rule block seat (heard_syndrome s (syndrome block.code seat.other))
    unfolding heard_syndrome
    syndrome-follows zero-round ongoing = grind (arith, common_steps, get_or, course-bound, both_ways)

    -- or its bits at the positions of the round
    abbrev their_values : List ℕ
    their_values = gathered (in_round s.stage.round s.rounds) (λ i. bit_of (get_or seat.other i 0)) (length s.rounds)

    pub values_follows : FitKey block.code.width block.plan.kinds seat.other → is_open s.stage.outcome ≡ true
        → 1 ≤ s.stage.round
        → Follows rule block seat
        (heard_values s s.stage.round their_values)
    unfolding heard_values spread list_of
    values_follows other ongoing later =
        record {
          began = f.began;
          on = f.on;
          their_syndrome = λ h. f.their_syndrome (inl (omega (arith, later)));
          their_length = length-map-range_with_len _ 0 (length s.their_bits) ∙ f.their_length;
          their_bits = bits;
          ended = λ e. absurd (both_ways (is_open s.stage.outcome) e ongoing);
        }
      where
        bits : (i : ℕ) → (get_or s.rounds i 0 ≡ 0 → ⊥)
            → Heard (heard_values s s.stage.round their_values) (get_or s.rounds i 0)
            → get_or (spread (in_round s.stage.round s.rounds) their_values s.their_bits) i 0
            ≡ get_or seat.other i 0
        bits i ne h =
            ⊎_elim
            (λ l.
            let width : length s.rounds ≡ block.code.width = ap length f.on.rounds_are ∙ course-length rule block s.stage.round in
            let m : i < length s.their_bits = omega (arith, width, f.their_length) in
            get_or-map-range_with_len _ 0 (length s.their_bits) i i 0 m (omega arith)
            ∙ go l width (in_round s.stage.round s.rounds i) refl)
            (λ past. absurd (ne (get_or_past s.rounds i 0 past)))
            (cases_lt i (length s.rounds))
          where
            go : i < length s.rounds → length s.rounds ≡ block.code.width → (t : Bool) → in_round s.stage.round s.rounds i ≡ t
                → cond t (get_or their_values (tally (in_round s.stage.round s.rounds) i) 0) (get_or s.their_bits i 0)
                ≡ get_or seat.other i 0
            go l width true e = grind (arith, common_steps, gathered_at, get_or)
            go l width false e = grind (arith, common_steps, get_or, course-bound, eqb-false)
