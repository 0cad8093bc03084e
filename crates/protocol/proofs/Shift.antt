-- An end whose key has a companion word added makes the same calls with the same replies, but for what key writes.
use Rattle.std.proofs.Common.{◌≡◌, ℕ, zero, suc, ◌+◌, ◌%◌, ◌<◌, ◌≤◌, Bool, true, false, cond, ltb, List, map, length, get_or, Ok, Err, Result, refl, ap, ⊎_elim, arith}
use Rattle.std.proofs.lemmas.Grind.{common_steps}
use Rattle.std.proofs.lemmas.List.{get_or_past, take_at, drop_at}
use Rattle.std.proofs.lemmas.Bool.{cases_lt, eqb-true, eqb-false}
use Rattle.codes.specs.Code.{Code}
use Rattle.codes.specs.Syndrome.{IsKey, added}
use Rattle.codes.proofs.Parities.{same_mod, mod_mod}
use Rattle.decoders.specs.Decoding.{Rule, Room}
use Rattle.frames.specs.Shape.{FrameShape, syndrome_frame, disclosure_frame}
use Rattle.frames.specs.Reading.{read_shape}
use Rattle.frames.specs.Writing.{laid}
use Rattle.frames.specs.declared.refusal.FrameRefusal.{FrameRefusal}
use Rattle.protocol.specs.State.{State, frame_of, agreed_bit, raw_bits}
use Rattle.protocol.specs.Asking.{Verdict, settled, clashed, spent, named, Judgement, state_at, question_of}
use Rattle.protocol.specs.Calls.{Done, refused, writes}
use Rattle.protocol.specs.Hearing.{hear_done, hear_read, hear_shape, heard_syndrome, heard_values, stays}
use Rattle.protocol.specs.Turning.{turn_done, taken, after, concluded, disclosing, question_now}
use Rattle.protocol.specs.Steps.{say_done, key_done, key_written}
use Rattle.protocol.specs.Guarantee.{shift_reply, add_front}
use Rattle.protocol.proofs.Words.{map_cong, same_bit, added-within, length-added, gathered_cong, gathered-length, gathered-added}

-- the word added to an end's key
abbrev pub shift_state : List ℕ → State → State
shift_state word s = record s { key = added s.key word }

abbrev pub shift_done : List ℕ → List ℕ → Done State → Done State
shift_done word raw d = record { held = shift_state word d.held; reply = shift_reply raw d.reply }

-- what hiding needs of an open end: the word is 0 wherever it disclosed
pub record Veiled (n : ℕ) (kinds word : List ℕ) (s : State) : Type 0 where
  pub kinds_are : s.kinds ≡ kinds
  pub kinds_long : length kinds ≡ n
  pub key : IsKey n s.key
  pub rounds_long : length s.rounds ≡ n
  pub zeros : (i : ℕ) → (get_or s.rounds i 0 ≡ 0 → ⊥) → get_or word i 0 ≡ 0

-- what key writes, with the word's raw bits added to its front
laid_shift : (bits raw buffer : List ℕ) → length raw ≡ length bits → ltb (length buffer) (length bits) ≡ false
    → laid (added bits raw) buffer ≡ add_front raw (laid bits buffer)
laid_shift bits raw buffer e room = grind (arith, common_steps, length-added, take_at, drop_at)

module _ (word raw : List ℕ) (s : State) where
  pick : (t : Bool) (x y : List ℕ) (k l : ℕ) → k ≡ l → (t ≡ false → x ≡ add_front raw y)
      → cond t (stays (shift_state word s) (refused 12 k)) (stays (shift_state word s) (writes x))
      ≡ shift_done word raw (cond t (stays s (refused 12 l)) (stays s (writes y)))
  pick true x y k l e h = ap (λ z. stays (shift_state word s) (refused 12 z)) e
  pick false x y k l e h = ap (λ z. stays (shift_state word s) (writes z)) (h refl)

  written_shift : (bits buffer : List ℕ) → length raw ≡ length bits
      → key_written (shift_state word s) (added bits raw) buffer ≡ shift_done word raw (key_written s bits buffer)
  written_shift bits buffer e = grind (arith, common_steps, length-added, pick, laid_shift)

-- the sum of three bits in either order
mix : (k w p : ℕ) → ((k + w) % 2 + p) % 2 ≡ ((k + p) % 2 + w) % 2
mix k w p = grind (arith, common_steps, same_mod, mod_mod)

module _ (n : ℕ) (kinds word : List ℕ) (s : State) (v : Veiled n kinds word s) where
  agreed_shift : (i : ℕ) → i < n → agreed_bit (shift_state word s) i ≡ (agreed_bit s i + get_or word i 0) % 2
  agreed_shift i l = grind (arith, common_steps, get_or, added-within, mix)

  raw_shift : raw_bits s.kinds (agreed_bit (shift_state word s))
      ≡ added (raw_bits s.kinds (agreed_bit s)) (raw_bits s.kinds (λ i. get_or word i 0))
  raw_shift = grind (arith, common_steps, gathered-added, get_or, agreed_shift)

  pub key_shift : (buffer : List ℕ)
      → key_done (shift_state word s) buffer ≡ shift_done word (raw_bits kinds (λ i. get_or word i 0)) (key_done s buffer)
  unfolding key_done
  key_shift buffer = grind (arith, common_steps, get_or, raw_shift, written_shift, gathered-length)

  -- a disclosed bit does not change
  disclosed-bit : (i : ℕ) → (get_or s.rounds i 0 ≡ 0 → ⊥) → get_or (added s.key word) i 0 ≡ get_or s.key i 0
  disclosed-bit i h =
      ⊎_elim (λ l. same_bit n s.key word v.key i l (v.zeros i h))
      (λ past.
      let l : length s.rounds ≤ i = omega (arith, v.rounds_long) in
      absurd (h (get_or_past s.rounds i 0 l)))
      (cases_lt i n)

  frame_same : (r : ℕ) → frame_of (shift_state word s) r ≡ frame_of s r
  frame_same zero = refl
  frame_same (suc r) = grind (arith, common_steps, gathered_cong, get_or, eqb-true, disclosed-bit)

  state_same : (i : ℕ)
      → state_at s.kinds s.rounds (added s.key word) s.their_bits i
      ≡ state_at s.kinds s.rounds s.key s.their_bits i
  state_same i = grind (arith, common_steps, get_or, disclosed-bit, eqb-false)

  question_same : (code : Code) → question_now (shift_state word s) code ≡ question_now s code
  unfolding question_of
  question_same code = grind (arith, common_steps, map_cong, state_same)

  module _ (raw : List ℕ) where
    pub say_shift : (r : ℕ) (buffer : List ℕ) → say_done (shift_state word s) r buffer ≡ shift_done word raw (say_done s r buffer)
    unfolding say_done
    say_shift r buffer = grind (arith, common_steps, frame_same)

    hear-syndrome : (side block : ℕ) (bits : List ℕ)
        → hear_shape (shift_state word s) (syndrome_frame side block bits) ≡ shift_done word raw (hear_shape s (syndrome_frame side block bits))
    unfolding heard_syndrome
    hear-syndrome side block bits = grind (arith, common_steps)

    hear_values : (side block r : ℕ) (map values : List ℕ)
        → hear_shape (shift_state word s) (disclosure_frame side block r map values)
        ≡ shift_done word raw (hear_shape s (disclosure_frame side block r map values))
    unfolding heard_values
    hear_values side block r map values = grind (arith, common_steps, get_or)

    hear-read : (r : Result FrameShape FrameRefusal) → hear_read (shift_state word s) r ≡ shift_done word raw (hear_read s r)
    hear-read (Ok (syndrome_frame side block bits)) = hear-syndrome side block bits
    hear-read (Ok (disclosure_frame side block r map values)) = hear_values side block r map values
    hear-read (Err fault) = refl

    pub hear_shift : (bytes : List ℕ) → hear_done (shift_state word s) bytes ≡ shift_done word raw (hear_done s bytes)
    unfolding hear_done
    hear_shift bytes = hear-read (read_shape s.terms.width s.terms.checks bytes)

    after_shift : (verdict : Verdict) (pattern : List ℕ)
        → after (shift_state word s) verdict pattern ≡ shift_state word (after s verdict pattern)
    unfolding concluded disclosing
    after_shift settled pattern = refl
    after_shift clashed pattern = refl
    after_shift spent pattern = refl
    after_shift (named map) pattern = refl

    taken_shift : (j : Judgement) (pattern confidence : List ℕ)
        → taken (shift_state word s) j pattern confidence ≡ shift_done word raw (taken s j pattern confidence)
    taken_shift j pattern confidence = let e = after_shift j.verdict j.pattern in cc

    pub turn_shift : (rule : Rule) (code : Code) (room : Room) (pattern confidence : List ℕ) (words : ℕ)
        → turn_done rule (shift_state word s) code room pattern confidence words
        ≡ shift_done word raw (turn_done rule s code room pattern confidence words)
    unfolding turn_done
    turn_shift rule code room pattern confidence words = grind (arith, common_steps, question_same, taken_shift)
