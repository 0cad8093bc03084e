-- What a settled round says: the pattern fits the question, so Bob's corrected key has Alice's syndrome and disclosed bits.
use Rattle.std.proofs.Common.{◌≡◌, ℕ, zero, suc, ◌+◌, ◌-◌, ◌%◌, ◌<◌, ◌≤◌, Bool, true, false, List, length, get_or, sym, ◌∙◌, subst, ⊎_elim, arith}
use Rattle.std.proofs.lemmas.Grind.{common_steps}
use Rattle.std.proofs.lemmas.List.{ext_get_or}
use Rattle.std.proofs.lemmas.List.FromFn.{length-map-range_with_len, get_or-map-range_with_len}
use Rattle.std.proofs.lemmas.Bool.{cases_eq, eqb-true, eqb-false, ne_eqb, and_parts}
use Rattle.codes.specs.Code.{check, checks}
use Rattle.codes.specs.Admission.{Admissible}
use Rattle.codes.specs.Syndrome.{IsKey, parity, syndrome, added}
use Rattle.codes.proofs.Parities.{syndrome_at, syndrome-length, parity-added}
use Rattle.decoders.specs.Question.{Question, SoundQuestion}
use Rattle.decoders.specs.Fit.{pattern_fits, all_below, check_fits, place_fits, agrees}
use Rattle.decoders.specs.Decoding.{Rule, Formed}
use Rattle.protocol.specs.Counting.{list_of}
use Rattle.protocol.specs.Plan.{with_side, has_kind, plan_fits}
use Rattle.protocol.specs.Asking.{known, state_at, question_of, known_pattern, settled, judged}
use Rattle.protocol.specs.Guarantee.{Block}
use Rattle.protocol.proofs.Opening.{fit_plan, syndrome-bit}
use Rattle.protocol.proofs.Course.{course, question_at, judged_at, verdict_at, question_state}

all_at : (test : ℕ → Bool) (n i : ℕ) → all_below test n ≡ true → i < n → test i ≡ true
all_at test zero i e l = absurd (omega arith)
all_at test (suc n) i e l =
    let p = and_parts (all_below test n) (test n) e in
    ⊎_elim (λ same. rw same p.1) (λ ne. all_at test n i p.0 (omega arith)) (cases_eq i n)

agrees-known : (x b : ℕ) → x < 2 → agrees (known x) b ≡ true → b ≡ x
agrees-known x b small = grind (arith, common_steps, eqb-true, eqb-false)

judged-settles : (rule : Rule) (step left : ℕ) (q : Question) → (judged rule step left q).verdict ≡ settled
    → pattern_fits q (judged rule step left q).pattern ≡ true
unfolding judged
judged-settles rule step left q = grind (arith, common_steps)

judged-length : (rule : Rule) (step left : ℕ) (q : Question) → Formed rule → SoundQuestion q
    → length (judged rule step left q).pattern ≡ q.code.width
unfolding judged known_pattern list_of
judged-length rule step left q formed sound = grind (arith, common_steps, length-map-range_with_len)

module _ (rule : Rule) (block : Block) (formed : Formed rule)
    (matrix : Admissible block.code.width (checks block.code) block.code.positions block.code.ends) where
  abbrev difference_bit : ℕ → ℕ
  difference_bit k = (get_or (syndrome block.code block.alice_key) k 0 + get_or (syndrome block.code block.bob_key) k 0) % 2

  sound_question : (side : ℕ) → plan_fits (with_side side block.plan) block.code ≡ true → (rounds : List ℕ)
      → SoundQuestion (question_at rule block rounds)
  unfolding question_of list_of
  sound_question side fits rounds =
      let p = fit_plan (with_side side block.plan) block.code fits in
      record {
        matrix = matrix;
        difference =
            record {
              long = length-map-range_with_len _ 0 (checks block.code);
              bits = λ k l. omega (arith, get_or-map-range_with_len difference_bit 0 (checks block.code) k k 0 l (omega arith));
            };
        states = length-map-range_with_len _ 0 block.code.width;
        low = p.class_low;
        high = p.class_high;
      }

  module _ (r side : ℕ) (fits : plan_fits (with_side side block.plan) block.code ≡ true) (has_settled : verdict_at rule block r ≡ settled) where
    abbrev pub agreed_pattern : List ℕ
    agreed_pattern = (judged_at rule block (course rule block r)).pattern

    pub pattern-length : length agreed_pattern ≡ block.code.width
    unfolding question_of
    pattern-length = grind (arith, common_steps, judged-length, course, question_at, sound_question)

    abbrev asked : Question
    asked = question_at rule block (course rule block r).rounds

    fit_all : (all_below (check_fits asked agreed_pattern) (checks block.code) ≡ true)
        × (all_below (place_fits asked agreed_pattern) block.code.width ≡ true)
    unfolding pattern_fits question_of
    fit_all =
        and_parts (all_below (check_fits asked agreed_pattern) (checks block.code)) (all_below (place_fits asked agreed_pattern) block.code.width)
        (judged-settles rule block.plan.step (block.plan.cap - (course rule block r).count) asked has_settled)

    -- each check's parity over the pattern is the sum of both syndrome bits
    check-fits : (k : ℕ) → k < checks block.code
        → parity agreed_pattern (check block.code k)
        ≡ difference_bit k
    unfolding question_of list_of
    check-fits k l =
        eqb-true _ _ (all_at (check_fits asked agreed_pattern) (checks block.code) k fit_all.0 l)
        ∙ get_or-map-range_with_len difference_bit 0 (checks block.code) k k 0 l (omega arith)

    place-fits : (i : ℕ) → i < block.code.width
        → agrees (state_at block.plan.kinds (course rule block r).rounds block.alice_key block.bob_key i) (get_or agreed_pattern i 0) ≡ true
    unfolding question_of
    place-fits i l =
        let st = question_state block.code block.plan.class block.plan.kinds (course rule block r).rounds
        (syndrome block.code block.alice_key) (syndrome block.code block.bob_key) block.alice_key block.bob_key i l in
        subst (λ x. agrees x (get_or agreed_pattern i 0) ≡ true) st (all_at (place_fits asked agreed_pattern) block.code.width i fit_all.1 l)

    -- a disclosed position that is not shortened has the sum of both bits
    pub disclosed-bit : (i : ℕ) → i < block.code.width → (get_or (course rule block r).rounds i 0 ≡ 0 → ⊥) → has_kind 2 block.plan.kinds i ≡ false
        → get_or agreed_pattern i 0 ≡ (get_or block.alice_key i 0 + get_or block.bob_key i 0) % 2
    disclosed-bit i l ne plain =
        let x = (get_or block.alice_key i 0 + get_or block.bob_key i 0) % 2 in
        let here : agrees (known x) (get_or agreed_pattern i 0) ≡ true =
        rw (plain, ne_eqb (get_or (course rule block r).rounds i 0) 0 ne) at (place-fits i l) in
        agrees-known x (get_or agreed_pattern i 0) (omega arith) here

    pub meets-syndrome : IsKey block.code.width block.bob_key
        → syndrome block.code (added block.bob_key agreed_pattern) ≡ syndrome block.code block.alice_key
    meets-syndrome key =
        ext_get_or 0 (syndrome block.code (added block.bob_key agreed_pattern)) (syndrome block.code block.alice_key)
        (syndrome-length block.code _ ∙ sym (syndrome-length block.code _))
        (λ k h.
        let l : k < checks block.code = rw (syndrome-length block.code (added block.bob_key agreed_pattern)) at h in
        let long : length agreed_pattern ≤ length block.bob_key = omega (arith, pattern-length, key.long) in
        let sum = parity-added block.bob_key agreed_pattern long (check block.code k) in
        let a = syndrome_at block.code block.alice_key k l in
        let b = syndrome_at block.code block.bob_key k l in
        let c = check-fits k l in
        let small = syndrome-bit block.code block.alice_key k l in
        syndrome_at block.code (added block.bob_key agreed_pattern) k l ∙ sum ∙ cancel _ _ _ _ (sym b) c small)
      where
        cancel : (pb pp sa sb : ℕ) → pb ≡ sb → pp ≡ (sa + sb) % 2 → sa < 2 → (pb + pp) % 2 ≡ sa
        cancel pb pp sa sb e f l = omega arith
