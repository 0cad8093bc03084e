-- The one course of a block: from its plan, matrix and both keys, what is disclosed in each round and what each turn decides.
use Rattle.std.proofs.Common.{rules, ◌≡◌, ℕ, zero, suc, ◌+◌, ◌-◌, ◌<◌, ◌≤◌, Bool, true, false, cond, not, eqb, List, map, length, get_or, replicate, sum, sym, refl, ap, ◌∙◌, ⊎_elim, add-one, arith}
use Rattle.std.proofs.lemmas.Grind.{common_steps}
use Rattle.std.proofs.lemmas.List.{length-replicate, get_or-replicate, get_or_past}
use Rattle.std.proofs.lemmas.List.FromFn.{length-map-range_with_len, get_or-map-range_with_len}
use Rattle.std.proofs.lemmas.Bool.{cases_lt, cases_eq, cases_Bool, eqb-true, eqb-false, eq-eqb, ne_eqb, and_parts, both_ways}
use Rattle.codes.specs.Code.{Code}
use Rattle.codes.specs.Syndrome.{syndrome}
use Rattle.decoders.specs.Question.{Question}
use Rattle.decoders.specs.Fit.{is_known}
use Rattle.decoders.specs.Decoding.{Rule}
use Rattle.decoders.specs.declared.state.State.TheVariants.{Raw}
use Rattle.frames.specs.Writing.{map_of, in_round}
use Rattle.frames.proofs.Gathered.{length-map_of, sum-map_of_more, map_of-none}
use Rattle.protocol.specs.Counting.{tally, list_of}
use Rattle.protocol.specs.Plan.{has_kind}
use Rattle.protocol.specs.Asking.{state_at, question_of, known_at, unknown_at, chosen, Verdict, settled, clashed, spent, named, Judgement, share, judged}
use Rattle.protocol.specs.Turning.{marked}
use Rattle.protocol.specs.Reading.{is_naming}
use Rattle.protocol.specs.Guarantee.{Block}
use Rattle.protocol.proofs.Ranks.{least_sure, tally_split, tally_cong, tally-none}

-- what is disclosed, and how many positions that is
pub record Point : Type 0 where
  pub rounds : List ℕ
  pub count : ℕ

abbrev pub advanced : ℕ → Point → Verdict → Point
advanced r pt settled = pt
advanced r pt clashed = pt
advanced r pt spent = pt
advanced r pt (named map) = record { rounds = marked r map pt.rounds; count = pt.count + sum map }

get_or-map_of : (test : ℕ → Bool) (n i : ℕ) → i < n → get_or (map_of test n) i 0 ≡ cond (test i) 1 0
unfolding map_of
get_or-map_of test n i h = get_or-map-range_with_len (λ k. cond (test k) 1 0) 0 n i i 0 h (omega arith)

-- a map's one stands for a place that passes
pub map_of_one : (test : ℕ → Bool) (n i : ℕ) → get_or (map_of test n) i 0 ≡ 1 → (i < n) × (test i ≡ true)
map_of_one test n i e = grind (arith, common_steps, get_or-map_of, get_or_past, length-map_of, cases_lt)

pub map_of-there : (test : ℕ → Bool) (n i : ℕ) → i < n → test i ≡ true → get_or (map_of test n) i 0 ≡ 1
map_of-there test n i h e = get_or-map_of test n i h ∙ rw e

pub marked_at : (r : ℕ) (map rounds : List ℕ) (i : ℕ) → i < length rounds
    → get_or (marked r map rounds) i 0 ≡ cond (eqb (get_or map i 0) 1) r (get_or rounds i 0)
unfolding list_of
marked_at r map rounds i h = grind (arith, common_steps, get_or-map-range_with_len, get_or)

pub marked-length : (r : ℕ) (map rounds : List ℕ) → length (marked r map rounds) ≡ length rounds
unfolding list_of
marked-length r map rounds = length-map-range_with_len (λ k. cond (eqb (get_or map k 0) 1) r (get_or rounds k 0)) 0 (length rounds)

-- a disclosed position is known
state_known : (kinds rounds ours theirs : List ℕ) (i : ℕ) → (get_or rounds i 0 ≡ 0 → ⊥)
    → is_known (state_at kinds rounds ours theirs i) ≡ true
state_known kinds rounds ours theirs i ne = grind (arith, common_steps, get_or, eqb-true)

pub question_state : (code : Code) (class : ℕ) (kinds rounds sa sb ka kb : List ℕ) (i : ℕ) → i < code.width
    → get_or (question_of code class kinds rounds sa sb ka kb).states i Raw ≡ state_at kinds rounds ka kb i
unfolding question_of
question_state code class kinds rounds sa sb ka kb i h =
    get_or-map-range_with_len (state_at kinds rounds ka kb) 0 code.width i i Raw h (omega arith)

-- a verdict that names, names positions that were not known
pub judged-names : (rule : Rule) (step left : ℕ) (q : Question) (map : List ℕ) → (judged rule step left q).verdict ≡ named map
    → (map ≡ map_of (chosen q (rule q).confidence (share step left q)) q.code.width) × (1 ≤ share step left q)
unfolding judged
judged-names rule step left q m = grind (arith, common_steps, eqb-false)

pub sum-map_of : (test : ℕ → Bool) (n : ℕ) → sum (map_of test n) ≡ tally test n
unfolding tally
sum-map_of test zero = ap sum (map_of-none test)
sum-map_of test (suc n) =
    let more : sum (map_of test (suc n)) ≡ sum (map_of test n) + cond (test n) 1 0 = rw (← add-one) (sum-map_of_more test n) in
    more ∙ ap (λ k. k + cond (test n) 1 0) (sum-map_of test n)

-- exactly k of the positions that are not known are chosen, where there are so many
chosen-count : (q : Question) (confidence : List ℕ) (k : ℕ) → k ≤ tally (unknown_at q) q.code.width
    → tally (chosen q confidence k) q.code.width ≡ k
chosen-count q confidence k l = search (rules, least_sure)

-- a turn that names, names exactly its share
pub judged-share : (rule : Rule) (step left : ℕ) (q : Question) (m : List ℕ) → (judged rule step left q).verdict ≡ named m
    → sum m ≡ share step left q
judged-share rule step left q m e =
    let is = judged-names rule step left q m e in
    let k = share step left q in
    ap sum is.0 ∙ sum-map_of (chosen q (rule q).confidence k) q.code.width
    ∙ chosen-count q (rule q).confidence k (omega arith)

pub zero_at : (n i : ℕ) → get_or {A = ℕ} (replicate n 0) i 0 ≡ 0
zero_at n i = grind (arith, common_steps, get_or-replicate, get_or_past, length-replicate, cases_lt)

-- whether a position is disclosed
abbrev pub is_out : List ℕ → ℕ → Bool
is_out rounds i = not (eqb (get_or rounds i 0) 0)

module _ (rule : Rule) (block : Block) where
  abbrev pub question_at : List ℕ → Question
  question_at rounds =
      question_of block.code block.plan.class block.plan.kinds rounds (syndrome block.code block.alice_key)
      (syndrome block.code block.bob_key) block.alice_key block.bob_key

  abbrev pub judged_at : Point → Judgement
  judged_at pt = judged rule block.plan.step (block.plan.cap - pt.count) (question_at pt.rounds)

  -- the course: what is disclosed when round r begins
  unfoldable pub course : ℕ → Point
  course zero = record { rounds = replicate block.code.width 0; count = 0 }
  course (suc r) = advanced (suc r) (course r) (judged_at (course r)).verdict

  abbrev pub verdict_at : ℕ → Verdict
  verdict_at r = (judged_at (course r)).verdict

  pub course_next : (r : ℕ) (m : List ℕ) → verdict_at r ≡ named m
      → course (suc r) ≡ record { rounds = marked (suc r) m (course r).rounds; count = (course r).count + sum m }
  unfolding course
  course_next r m e = rw e

  advanced_length : (r : ℕ) (pt : Point) (v : Verdict) → length (advanced r pt v).rounds ≡ length pt.rounds
  advanced_length r pt settled = refl
  advanced_length r pt clashed = refl
  advanced_length r pt spent = refl
  advanced_length r pt (named m) = marked-length r m pt.rounds

  pub course-length : (r : ℕ) → length (course r).rounds ≡ block.code.width
  unfolding course
  course-length zero = length-replicate {A = ℕ} block.code.width 0
  course-length (suc r) = advanced_length (suc r) (course r) (judged_at (course r)).verdict ∙ course-length r

  -- what a round names was not disclosed
  pub names-new : (r : ℕ) (m : List ℕ) → verdict_at r ≡ named m → (i : ℕ) → get_or m i 0 ≡ 1
      → (i < block.code.width) × (get_or (course r).rounds i 0 ≡ 0) × (has_kind 2 block.plan.kinds i ≡ false)
  unfolding question_of
  names-new r m e i one =
      let q = question_at (course r).rounds in
      let is = judged-names rule block.plan.step (block.plan.cap - (course r).count) q m e in
      let at = map_of_one (chosen q (rule q).confidence (share block.plan.step (block.plan.cap - (course r).count) q)) q.code.width i
      (ap (λ xs. get_or xs i 0) (sym is.0) ∙ one) in
      let fresh = (and_parts (unknown_at q i) _ at.1).0 in
      let st = question_state block.code block.plan.class block.plan.kinds (course r).rounds
      (syndrome block.code block.alice_key) (syndrome block.code block.bob_key) block.alice_key block.bob_key i at.0 in (
        at.0,
        ⊎_elim (λ z. z)
            (λ ne.
            let k = state_known block.plan.kinds (course r).rounds block.alice_key block.bob_key i ne in
            absurd (clash (known_at q i) (ap is_known st ∙ k) fresh))
            (cases_eq (get_or (course r).rounds i 0) 0),
        ⊎_elim
            (λ short.
            let k : is_known (state_at block.plan.kinds (course r).rounds block.alice_key block.bob_key i) ≡ true = rw short refl in
            absurd (clash (known_at q i) (ap is_known st ∙ k) fresh))
            (λ f. f) (cases_Bool (has_kind 2 block.plan.kinds i)),
      )
    where
      clash : (t : Bool) → t ≡ true → not t ≡ true → ⊥
      clash true a b = both_ways false refl b
      clash false a b = both_ways false refl a

  share_is : (r : ℕ) (m : List ℕ) → verdict_at r ≡ named m → (sum m ≤ block.plan.cap - (course r).count) × (1 ≤ sum m)
  share_is r m e =
      let q = question_at (course r).rounds in
      let left = block.plan.cap - (course r).count in
      let is = judged-names rule block.plan.step left q m e in
      let s = judged-share rule block.plan.step left q m e in
      (omega arith, omega (arith, is.1))

  -- the map's ones are counted
  ones_are : (r : ℕ) (m : List ℕ) → verdict_at r ≡ named m → tally (λ i. eqb (get_or m i 0) 1) block.code.width ≡ sum m
  unfolding question_of
  ones_are r m e =
      let q = question_at (course r).rounds in
      let k = share block.plan.step (block.plan.cap - (course r).count) q in
      let is = judged-names rule block.plan.step (block.plan.cap - (course r).count) q m e in
      let test = chosen q (rule q).confidence k in
      tally_cong (λ i. eqb (get_or m i 0) 1) test block.code.width
      (λ i l. ap (λ xs. eqb (get_or xs i 0) 1) is.0 ∙ ap (λ x. eqb x 1) (get_or-map_of test block.code.width i l) ∙ same_test (test i))
      ∙ sym (ap sum is.0 ∙ sum-map_of test block.code.width)
    where
      same_test : (t : Bool) → eqb (cond t 1 0) 1 ≡ t
      same_test true = refl
      same_test false = refl

  advanced_out : (r : ℕ) (m : List ℕ) → verdict_at r ≡ named m
      → tally (is_out (marked (suc r) m (course r).rounds)) block.code.width
      ≡ tally (is_out (course r).rounds) block.code.width + sum m
  advanced_out r m e =
      tally_split (is_out (course r).rounds) (λ i. eqb (get_or m i 0) 1) (is_out (marked (suc r) m (course r).rounds)) block.code.width
      (λ i l.
      let long : i < length (course r).rounds = omega (arith, course-length r) in
      ap (λ x. cond (not (eqb x 0)) 1 0) (marked_at (suc r) m (course r).rounds i long)
      ∙ each i (eqb (get_or m i 0) 1) refl)
      ∙ ap (λ x. tally (is_out (course r).rounds) block.code.width + x) (ones_are r m e)
    where
      each : (i : ℕ) (t : Bool) → eqb (get_or m i 0) 1 ≡ t
          → cond (not (eqb (cond t (suc r) (get_or (course r).rounds i 0)) 0)) 1 0
          ≡ cond (is_out (course r).rounds i) 1 0 + cond t 1 0
      each i true e' =
          let z = (names-new r m e i (eqb-true (get_or m i 0) 1 e')).1 in
          rw (z, ne_eqb (suc r) 0 (λ e''. omega (arith, e''))) refl
      each i false e' = omega arith

  -- how many are disclosed is what is counted
  pub count_is : (r : ℕ) → (course r).count ≡ tally (is_out (course r).rounds) block.code.width
  unfolding course
  count_is zero = grind (arith, common_steps, tally-none, zero_at)
  count_is (suc r) = grind (arith, common_steps, count_is r, advanced_out)

  pub count-cap : (r : ℕ) → (course r).count ≤ block.plan.cap
  unfolding course
  count-cap zero = omega arith
  count-cap (suc r) = grind (arith, common_steps, count-cap r, share_is)

  -- each round that names adds a position
  pub round-count : (r : ℕ) → ((j : ℕ) → j < r → is_naming (verdict_at j) ≡ true) → r ≤ (course r).count
  unfolding course
  round-count zero h = omega arith
  round-count (suc r) h = grind (arith, common_steps, round-count r (λ j l. h j (omega arith)), both_ways, share_is)

  -- no position is disclosed in a later round
  pub course-bound : (r i : ℕ) → get_or (course r).rounds i 0 ≤ r
  unfolding course
  course-bound zero i = omega (arith, zero_at block.code.width i)
  course-bound (suc r) i = grind (arith, common_steps, course-bound r i, get_or, marked_at, get_or_past, marked-length, cases_lt)

  -- the positions of a round stay those of the round
  next_round : (r j i : ℕ) → j < r → in_round (suc j) (course (suc r)).rounds i ≡ in_round (suc j) (course r).rounds i
  unfolding course
  next_round r j i l = grind (arith, common_steps, marked_at, get_or, get_or_past, marked-length, cases_lt, names-new, eqb-true, ne_eqb)

  pub same-round : (d j i : ℕ) → in_round (suc j) (course (d + suc j)).rounds i ≡ in_round (suc j) (course (suc j)).rounds i
  same-round zero j i = ap (λ x. in_round (suc j) (course x).rounds i) (omega arith)
  same-round (suc d) j i =
      let k : suc d + suc j ≡ suc (d + suc j) = omega arith in
      ap (λ x. in_round (suc j) (course x).rounds i) k ∙ next_round (d + suc j) j i (omega arith) ∙ same-round d j i

  pub round-stays : (r j i : ℕ) → suc j ≤ r → in_round (suc j) (course r).rounds i ≡ in_round (suc j) (course (suc j)).rounds i
  round-stays r j i l =
      let e : r ≡ (r - suc j) + suc j = omega arith in
      ap (λ x. in_round (suc j) (course x).rounds i) e ∙ same-round (r - suc j) j i

  -- what is disclosed stays disclosed
  pub still_out : (r t i : ℕ) → r ≤ t → (get_or (course r).rounds i 0 ≡ 0 → ⊥) → get_or (course t).rounds i 0 ≡ get_or (course r).rounds i 0
  still_out r t i l ne =
      let v = get_or (course r).rounds i 0 in
      let j : ℕ = v - 1 in
      let is : v ≡ suc j = omega (arith, ne) in
      let low : suc j ≤ r = omega (arith, course-bound r i, is) in
      let high : suc j ≤ t = omega arith in
      let at-r : in_round (suc j) (course r).rounds i ≡ true = eq-eqb v (suc j) is in
      eqb-true (get_or (course t).rounds i 0) (suc j) (round-stays t j i high ∙ sym (round-stays r j i low) ∙ at-r) ∙ sym is
