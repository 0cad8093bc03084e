-- The frames that the course of a block gives each end, and that an end which follows it writes.
use Rattle.std.proofs.Common.{◌≡◌, ℕ, zero, suc, ◌+◌, ◌-◌, ◌^◌, ◌<◌, ◌≤◌, Bool, true, false, cond, List, [], ◌∷◌, ◌++◌, length, get_or, Ok, sym, refl, ◌∙◌, subst, ⊎_elim, arith}
use Rattle.std.proofs.lemmas.Grind.{common_steps}
use Rattle.std.proofs.lemmas.List.{length-append, get_or_append_left, get_or_push, append-nil, get_or_past, length_push}
use Rattle.std.proofs.lemmas.Bool.{cases_lt, cases_eq}
use Rattle.codes.specs.Code.{checks}
use Rattle.codes.specs.Admission.{Admissible}
use Rattle.codes.specs.Syndrome.{syndrome}
use Rattle.codes.proofs.Parities.{syndrome-length}
use Rattle.decoders.specs.Decoding.{Rule}
use Rattle.runs.specs.Bits.{IsBits}
use Rattle.frames.specs.Shape.{FrameShape, WellFormed, syndrome_frame}
use Rattle.frames.specs.Format.{frame_bytes}
use Rattle.frames.specs.Reading.{read_shape}
use Rattle.frames.specs.Writing.{map_of, gathered, in_round, disclosure_of}
use Rattle.frames.proofs.Gathered.{length-map_of, map_of-bits}
use Rattle.frames.proofs.RoundTrip.{read_back}
use Rattle.protocol.specs.Counting.{tally}
use Rattle.protocol.specs.State.{State, frame_of}
use Rattle.protocol.specs.Reading.{is_naming}
use Rattle.protocol.specs.Guarantee.{Block}
use Rattle.protocol.proofs.Opening.{syndrome-bit}
use Rattle.protocol.proofs.Ranks.{tally-bound}
use Rattle.protocol.proofs.Course.{course, verdict_at, course-length, count_is, is_out, round-count, round-stays, sum-map_of}
use Rattle.protocol.proofs.Follow.{Seat, Follows}

abbrev pub course_frame : Rule → Block → Seat → ℕ → FrameShape
course_frame rule block seat zero = syndrome_frame seat.side block.plan.block (syndrome block.code seat.own)
course_frame rule block seat (suc r) =
    disclosure_of seat.side block.plan.block (suc r) (course rule block (suc r)).rounds seat.own

map_of_cong : (p q : ℕ → Bool) (n : ℕ) → ((i : ℕ) → p i ≡ q i) → map_of p n ≡ map_of q n
unfolding map_of
map_of_cong p q n h = grind (arith, common_steps)

gathered_test : (p q : ℕ → Bool) (f : ℕ → ℕ) (n : ℕ) → ((i : ℕ) → p i ≡ q i) → gathered p f n ≡ gathered q f n
unfolding gathered
gathered_test p q f zero h = refl
gathered_test p q f (suc n) h = let a = gathered_test p q f n h in let b = h n in cc

disclosure_cong : (side block r : ℕ) (key xs ys : List ℕ) → length xs ≡ length ys → ((i : ℕ) → in_round r xs i ≡ in_round r ys i)
    → disclosure_of side block r xs key ≡ disclosure_of side block r ys key
disclosure_cong side block r key xs ys long h = grind (arith, common_steps, map_of_cong, gathered_test, get_or)

-- an end that follows the course writes the course's frames
pub frame_is : (rule : Rule) (block : Block) (seat : Seat) (s : State) → Follows rule block seat s
    → (r : ℕ) → r ≤ s.stage.round → frame_of s r ≡ course_frame rule block seat r
frame_is rule block seat s f zero l = grind (arith, common_steps)
frame_is rule block seat s f (suc r) l = grind (arith, common_steps, disclosure_cong, course, course-length, round-stays)

-- what is gathered, place by place
pub gathered-count : (test : ℕ → Bool) (f : ℕ → ℕ) (n : ℕ) → length (gathered test f n) ≡ tally test n
unfolding gathered tally
gathered-count test f zero = refl
gathered-count test f (suc n) = grind (arith, common_steps, gathered-count test f n, length-append)

tally_before : (test : ℕ → Bool) (i d : ℕ) → test i ≡ true → tally test i < tally test (d + suc i)
unfolding tally
tally_before test i zero e = let k : 0 + suc i ≡ suc i = omega arith in rw (k, e) (omega arith)
tally_before test i (suc d) e =
    let k : suc d + suc i ≡ suc (d + suc i) = omega arith in let ih = tally_before test i d e in rw k (go (test (d + suc i)) ih)
  where
    go : (t : Bool) → tally test i < tally test (d + suc i) → tally test i < tally test (d + suc i) + cond t 1 0
    go true ih = omega arith
    go false ih = omega arith

pub gathered_at : (test : ℕ → Bool) (f : ℕ → ℕ) (n i : ℕ) → i < n → test i ≡ true → get_or (gathered test f n) (tally test i) 0 ≡ f i
unfolding gathered
gathered_at test f zero i l e = absurd (omega arith)
gathered_at test f (suc n) i l e =
    ⊎_elim
    (λ same.
    let t : test n ≡ true = rw (← same) e in
    rw t
    (subst (λ x. get_or (gathered test f n ++ f n ∷ []) (tally test x) 0 ≡ f x) (sym same)
    (get_or_push (gathered test f n) (f n) 0 (tally test n) (gathered-count test f n))))
    (λ ne.
    let m : i < n = omega arith in
    let before : tally test i < tally test n =
    let k : n ≡ (n - suc i) + suc i = omega arith in rw k (tally_before test i (n - suc i) e) in
    let long : tally test i < length (gathered test f n) = omega (arith, gathered-count test f n) in
    get_or_append_left (gathered test f n) (cond (test n) (f n ∷ []) []) 0 (tally test i) long ∙ gathered_at test f n i m e)
    (cases_eq i n)

gathered-bits : (test : ℕ → Bool) (f : ℕ → ℕ) (n : ℕ) → ((i : ℕ) → f i < 2) → IsBits (gathered test f n)
unfolding gathered
gathered-bits test f zero h = λ i. omega arith
gathered-bits test f (suc n) h =
    grind (arith, gathered-bits test f n h, append-nil, get_or_append_left, get_or_push, length_push, get_or_past, cases_eq, cases_lt)

-- the course's frames are well formed
module _ (rule : Rule) (block : Block) (seat : Seat)
    (matrix : Admissible block.code.width (checks block.code) block.code.positions block.code.ends)
    (number : block.plan.block < 2 ^ 32) (side : seat.side < 2) where
  small-round : (r : ℕ) → ((j : ℕ) → j < r → is_naming (verdict_at rule block j) ≡ true) → r < 2 ^ 16
  small-round r h = grind (arith, round-count, count_is, tally-bound, is_out, course)

  pub well_formed : (r : ℕ) → ((j : ℕ) → j < r → is_naming (verdict_at rule block j) ≡ true)
      → WellFormed block.code.width (checks block.code) (course_frame rule block seat r)
  well_formed zero h = grind (arith, common_steps, syndrome-length, syndrome-bit, get_or_past, cases_lt)
  well_formed (suc r) h =
      grind (arith, common_steps, course, course-length, small-round, length-map_of, map_of-bits, gathered-count, get_or, sum-map_of, gathered-bits)

  pub course-read : (r : ℕ) → ((j : ℕ) → j < r → is_naming (verdict_at rule block j) ≡ true)
      → read_shape block.code.width (checks block.code) (frame_bytes (course_frame rule block seat r)) ≡ Ok (course_frame rule block seat r)
  course-read r h = read_back block.code.width (checks block.code) (course_frame rule block seat r) (well_formed r h)
