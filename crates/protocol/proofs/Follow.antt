-- An open end of a block follows the block's course.
use Rattle.std.proofs.Common.{◌≡◌, ℕ, ◌+◌, ◌%◌, ◌<◌, true, false, ◌⊎◌, List, length, get_or, ap, ◌∙◌, arith}
use Rattle.std.proofs.lemmas.Grind.{common_steps}
use Rattle.std.proofs.lemmas.Bool.{cases_lt, eqb-false}
use Rattle.codes.specs.Code.{Code}
use Rattle.codes.specs.Syndrome.{syndrome}
use Rattle.decoders.specs.Decoding.{Rule}
use Rattle.ledger.specs.declared.line.Outcome.{Outcome}
use Rattle.ledger.specs.declared.line.Outcome.TheVariants.{Open, Settled, Spent, Clashed}
use Rattle.protocol.specs.Counting.{list_of}
use Rattle.protocol.specs.Plan.{with_side, plan_fits}
use Rattle.protocol.specs.State.{State, terms_of, is_open}
use Rattle.protocol.specs.Asking.{question_of, Verdict, settled, clashed, spent}
use Rattle.protocol.specs.Turning.{question_now, judged_now}
use Rattle.protocol.specs.Reading.{is_naming}
use Rattle.protocol.specs.Guarantee.{Block}
use Rattle.protocol.specs.declared.terms.Terms.{Terms}
use Rattle.protocol.proofs.Words.{map_cong}
use Rattle.protocol.proofs.Opening.{FitKey}
use Rattle.protocol.proofs.Course.{course, question_at, judged_at, verdict_at, course-bound}

-- one end of a block: its side, its key, and the other's
pub record Seat : Type 0 where
  pub side : ℕ
  pub own : List ℕ
  pub other : List ℕ

abbrev pub alice_seat : Block → Seat
alice_seat block = record { side = 0; own = block.alice_key; other = block.bob_key }

abbrev pub bob_seat : Block → Seat
bob_seat block = record { side = 1; own = block.bob_key; other = block.alice_key }

-- the frame of round r has been heard
abbrev pub Heard : State → ℕ → Type 0
Heard s r = (r < s.stage.round) ⊎ ((r ≡ s.stage.round) × (s.stage.heard ≡ true))

-- an outcome is what the verdict says
abbrev pub Concludes : Outcome → Verdict → Type 0
Concludes Open v = Unit {0}
Concludes Settled v = v ≡ settled
Concludes Spent v = v ≡ spent
Concludes Clashed v = v ≡ clashed

-- what an end has held since it opened
pub record Began (block : Block) (seat : Seat) (terms : Terms) (kinds key own_syndrome : List ℕ) : Type 0 where
  pub fits : plan_fits (with_side seat.side block.plan) block.code ≡ true
  pub key_fits : FitKey block.code.width block.plan.kinds seat.own
  pub terms_are : terms ≡ terms_of (with_side seat.side block.plan) block.code
  pub kinds_are : kinds ≡ block.plan.kinds
  pub key_is : key ≡ seat.own
  pub syndrome_is : own_syndrome ≡ syndrome block.code seat.own

-- so many rounds on, its disclosed places are the course's
pub record OnCourse (rule : Rule) (block : Block) (round named : ℕ) (rounds : List ℕ) : Type 0 where
  pub rounds_are : rounds ≡ (course rule block round).rounds
  pub count_is : named ≡ (course rule block round).count
  pub earlier : (j : ℕ) → j < round → is_naming (verdict_at rule block j) ≡ true

pub record Follows (rule : Rule) (block : Block) (seat : Seat) (s : State) : Type 0 where
  pub began : Began block seat s.terms s.kinds s.key s.own_syndrome
  pub on : OnCourse rule block s.stage.round s.stage.named s.rounds
  pub their_syndrome : Heard s 0 → s.their_syndrome ≡ syndrome block.code seat.other
  pub their_length : length s.their_bits ≡ block.code.width
  pub their_bits : (i : ℕ) → (get_or s.rounds i 0 ≡ 0 → ⊥) → Heard s (get_or s.rounds i 0) → get_or s.their_bits i 0 ≡ get_or seat.other i 0
  pub ended : is_open s.stage.outcome ≡ false
      → (s.stage.heard ≡ true) × Concludes s.stage.outcome (verdict_at rule block s.stage.round)
      × (s.pattern ≡ (judged_at rule block (course rule block s.stage.round)).pattern)

-- the two seats of a block ask the same question
pub data SeatOf (block : Block) : Seat → Type 0 where
  of_alice : SeatOf block (alice_seat block)
  of_bob : SeatOf block (bob_seat block)

swap_mod : (a b : ℕ) → (a + b) % 2 ≡ (b + a) % 2
swap_mod a b = ap (λ x. x % 2) (omega arith)

-- the question depends on the sums alone
question_cong : (code : Code) (class : ℕ) (kinds rounds sa sb ta tb a b c d : List ℕ)
    → ((k : ℕ) → (get_or sa k 0 + get_or sb k 0) % 2 ≡ (get_or ta k 0 + get_or tb k 0) % 2)
    → ((i : ℕ) → (get_or rounds i 0 ≡ 0 → ⊥) → (get_or a i 0 + get_or b i 0) % 2 ≡ (get_or c i 0 + get_or d i 0) % 2)
    → question_of code class kinds rounds sa sb a b ≡ question_of code class kinds rounds ta tb c d
unfolding question_of list_of
question_cong code class kinds rounds sa sb ta tb a b c d syndromes bits = grind (arith, common_steps, map_cong, get_or, eqb-false)

seat_question : (rule : Rule) (block : Block) (seat : Seat) → SeatOf block seat → (rounds theirs : List ℕ)
    → ((i : ℕ) → (get_or rounds i 0 ≡ 0 → ⊥) → get_or theirs i 0 ≡ get_or seat.other i 0)
    → question_of block.code block.plan.class block.plan.kinds rounds (syndrome block.code seat.own)
    (syndrome block.code seat.other) seat.own theirs
    ≡ question_at rule block rounds
seat_question rule block seat of_alice rounds theirs h = grind (arith, common_steps, question_cong, get_or)
seat_question rule block seat of_bob rounds theirs h = grind (arith, common_steps, question_cong, swap_mod, get_or)

module _ (rule : Rule) (block : Block) (seat : Seat) (of : SeatOf block seat) (s : State) (f : Follows rule block seat s)
    (heard : s.stage.heard ≡ true) where
  pub heard-bit : (i : ℕ) → (get_or s.rounds i 0 ≡ 0 → ⊥) → get_or s.their_bits i 0 ≡ get_or seat.other i 0
  heard-bit i ne = grind (arith, common_steps, get_or, course-bound, cases_lt)

  pub heard-syndrome : s.their_syndrome ≡ syndrome block.code seat.other
  heard-syndrome = grind (arith, common_steps, cases_lt)

  -- what the end asks is what the course asks
  asks_course : question_now s block.code ≡ question_at rule block (course rule block s.stage.round).rounds
  asks_course =
      let class = ap (λ t. t.class) f.began.terms_are in
      let kinds = f.began.kinds_are in
      let own = f.began.syndrome_is in
      let theirs = heard-syndrome in
      let key = f.began.key_is in
      let here : question_now s block.code
      ≡ question_of block.code block.plan.class block.plan.kinds s.rounds (syndrome block.code seat.own)
      (syndrome block.code seat.other) seat.own s.their_bits = cc in
      here ∙ seat_question rule block seat of s.rounds s.their_bits heard-bit ∙ ap (question_at rule block) f.on.rounds_are

  pub judges_course : judged_now rule s block.code ≡ judged_at rule block (course rule block s.stage.round)
  judges_course = grind (arith, common_steps, asks_course)
