-- Hearing a frame of the course leaves an end on the course, and hearing anything else changes nothing.
use Rattle.std.proofs.Common.{◌≡◌, ℕ, zero, suc, Bool, true, false, cond, ltb, ◌⊎◌, List, length, get_or, Ok, Err, Result, sym, refl, ap, ◌∙◌, inl, inr, ⊎_elim, arith}
use Rattle.std.proofs.lemmas.Grind.{common_steps}
use Rattle.std.proofs.lemmas.Bool.{cases_Bool, eqb-true, and_parts, both_ways, not-true}
use Rattle.codes.specs.Code.{checks}
use Rattle.codes.specs.Syndrome.{syndrome}
use Rattle.decoders.specs.Decoding.{Rule}
use Rattle.runs.specs.Bits.{bit_of}
use Rattle.frames.specs.Shape.{FrameShape, syndrome_frame, disclosure_frame}
use Rattle.frames.specs.Format.{frame_bytes}
use Rattle.frames.specs.Reading.{read_shape}
use Rattle.frames.specs.Writing.{map_of, gathered, in_round}
use Rattle.frames.specs.declared.refusal.FrameRefusal.{FrameRefusal}
use Rattle.protocol.specs.Counting.{same}
use Rattle.protocol.specs.State.{State, is_open}
use Rattle.protocol.specs.Calls.{Done, refused, hears}
use Rattle.protocol.specs.Hearing.{hear_done, hear_read, hear_shape, heard_syndrome, heard_values, awaits, foreign, stays}
use Rattle.protocol.specs.Guarantee.{Block}
use Rattle.protocol.specs.declared.terms.Hearing.{Hearing}
use Rattle.protocol.specs.declared.terms.Hearing.TheVariants.{Fresh, Repeat}
use Rattle.protocol.proofs.Hiding.{Silent}
use Rattle.protocol.proofs.Opening.{FitKey}
use Rattle.protocol.proofs.Course.{course}
use Rattle.protocol.proofs.CourseFrames.{course_frame}
use Rattle.protocol.proofs.Follow.{Seat, Heard, Follows}
use Rattle.protocol.proofs.Preserve.{syndrome-follows, values_follows}

-- a frame that is not accepted changes nothing
pub data Heeds (s : State) (d : Done State) : Type 0 where
  accepts : (what : Hearing) → d.reply ≡ hears what → Heeds s d
  ignores : d.held ≡ s → Silent d.reply → Heeds s d

heed : (s : State) (x : Result FrameShape FrameRefusal) → Heeds s (hear_read s x)
heed s (Err fault) = ignores refl tt
heed s (Ok (syndrome_frame side block bits)) =
    go (foreign s side block) (awaits s 0) (same bits s.their_syndrome)
  where
    go : (t u w : Bool)
        → Heeds s
        (cond t (stays s (refused 14 0))
        (cond u (record { held = heard_syndrome s bits; reply = hears Fresh })
        (cond w (stays s (hears Repeat)) (stays s (refused 16 0)))))
    go true u w = ignores refl tt
    go false true w = accepts Fresh refl
    go false false true = accepts Repeat refl
    go false false false = ignores refl tt
heed s (Ok (disclosure_frame side block r m values)) =
    go (foreign s side block) (ltb s.stage.round r)
    (same m (map_of (in_round r s.rounds) (length s.rounds))) (awaits s r)
    (same values (gathered (in_round r s.rounds) (λ i. get_or s.their_bits i 0) (length s.rounds)))
  where
    go : (t a b u w : Bool)
        → Heeds s
        (cond t (stays s (refused 14 0))
        (cond a (stays s (refused 15 0))
        (cond b
        (cond u (record { held = heard_values s r values; reply = hears Fresh })
        (cond w (stays s (hears Repeat)) (stays s (refused 16 r))))
        (stays s (refused 16 r)))))
    go true a b u w = ignores refl tt
    go false true b u w = ignores refl tt
    go false false false u w = ignores refl tt
    go false false true true w = accepts Fresh refl
    go false false true false true = accepts Repeat refl
    go false false true false false = ignores refl tt

pub hear_heeds : (s : State) (bytes : List ℕ) → Heeds s (hear_done s bytes)
unfolding hear_done
hear_heeds s bytes = heed s (read_shape s.terms.width s.terms.checks bytes)

-- what hearing the frame of round r leaves
pub record Listened (rule : Rule) (block : Block) (seat : Seat) (s t : State) (r : ℕ) : Type 0 where
  pub follows : Follows rule block seat t
  pub round : t.stage.round ≡ s.stage.round
  pub outcome : t.stage.outcome ≡ s.stage.outcome
  pub fresh : (j : ℕ) → Heard t j → Heard s j ⊎ (j ≡ r)

module _ (rule : Rule) (block : Block) (seat other : Seat) (s : State) (f : Follows rule block seat s) (whose : other.own ≡ seat.other)
    (fit : FitKey block.code.width block.plan.kinds other.own) where
  unchanged : (r : ℕ) → Listened rule block seat s s r
  unchanged r = record { follows = f; round = refl; outcome = refl; fresh = λ j h. inl h }

  -- an end that awaits a frame has not finished
  still_open : s.stage.heard ≡ false → is_open s.stage.outcome ≡ true
  still_open unheard = grind (arith, common_steps, both_ways, cases_Bool)

  awaited : (r : ℕ) → awaits s r ≡ true → (r ≡ s.stage.round) × (s.stage.heard ≡ false)
  awaited r e = grind (arith, common_steps, and_parts, eqb-true, not-true)

  values_on : (r : ℕ) → suc r ≡ s.stage.round → s.stage.heard ≡ false
      → Follows rule block seat
      (heard_values s (suc r)
      (gathered (in_round (suc r) (course rule block (suc r)).rounds) (λ i. bit_of (get_or other.own i 0))
      (length (course rule block (suc r)).rounds)))
  values_on r is unheard =
      let same-rounds : (course rule block (suc r)).rounds ≡ s.rounds = ap (λ x. (course rule block x).rounds) is ∙ sym f.on.rounds_are in
      let ours = values_follows rule block seat s f (rw (← whose) fit) (still_open unheard) (omega arith) in
      rw (same-rounds, is, whose) ours

  listen : (r : ℕ) → Listened rule block seat s (hear_shape s (course_frame rule block other r)).held r
  unfolding heard_syndrome heard_values
  listen zero =
      go (foreign s other.side block.plan.block) (awaits s 0) refl (same (syndrome block.code other.own) s.their_syndrome)
    where
      go : (t u : Bool) → awaits s 0 ≡ u → (w : Bool)
          → Listened rule block seat s
          (cond t (stays s (refused 14 0))
          (cond u (record { held = heard_syndrome s (syndrome block.code other.own); reply = hears Fresh })
          (cond w (stays s (hears Repeat)) (stays s (refused 16 0))))
          ).held
          0
      go true u e w = unchanged 0
      go false false e true = unchanged 0
      go false false e false = unchanged 0
      go false true e w =
          let a = awaited 0 e in
          record {
            follows = rw whose (syndrome-follows rule block seat s f (sym a.0) (still_open a.1));
            round = refl;
            outcome = refl;
            fresh = λ j h. ⊎_elim (λ l. inl (inl l)) (λ x. inr (x.0 ∙ sym a.0)) h;
          }
  listen (suc r) =
      go (foreign s other.side block.plan.block) (ltb s.stage.round (suc r))
      (same (map_of (in_round (suc r) (course rule block (suc r)).rounds) (length (course rule block (suc r)).rounds)) (map_of (in_round (suc r) s.rounds) (length s.rounds)))
      (awaits s (suc r)) refl
      (same
      (gathered (in_round (suc r) (course rule block (suc r)).rounds) (λ i. bit_of (get_or other.own i 0)) (length (course rule block (suc r)).rounds))
      (gathered (in_round (suc r) s.rounds) (λ i. get_or s.their_bits i 0) (length s.rounds)))
    where
      go : (t a b u : Bool) → awaits s (suc r) ≡ u → (w : Bool)
          → Listened rule block seat s
          (cond t (stays s (refused 14 0))
          (cond a (stays s (refused 15 0))
          (cond b
          (cond u
          (record {
            held =
                heard_values s (suc r)
                (gathered (in_round (suc r) (course rule block (suc r)).rounds) (λ i. bit_of (get_or other.own i 0)) (length (course rule block (suc r)).rounds));
            reply = hears Fresh;
          })
          (cond w (stays s (hears Repeat)) (stays s (refused 16 (suc r)))))
          (stays s (refused 16 (suc r)))))
          ).held
          (suc r)
      go true a b u e w = unchanged (suc r)
      go false true b u e w = unchanged (suc r)
      go false false false u e w = unchanged (suc r)
      go false false true false e true = unchanged (suc r)
      go false false true false e false = unchanged (suc r)
      go false false true true e w =
          let x = awaited (suc r) e in
          record {
            follows = values_on r x.0 x.1;
            round = refl;
            outcome = refl;
            fresh = λ j h. ⊎_elim (λ l. inl (inl l)) (λ y. inr (y.0 ∙ sym x.0)) h;
          }

  -- the bytes of the frame of round r of the other seat
  pub hear-course : (r : ℕ)
      → read_shape block.code.width (checks block.code) (frame_bytes (course_frame rule block other r)) ≡ Ok (course_frame rule block other r)
      → Listened rule block seat s (hear_done s (frame_bytes (course_frame rule block other r))).held r
  unfolding hear_done
  hear-course r reads = grind (arith, common_steps, course_frame, listen)
