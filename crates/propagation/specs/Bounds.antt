-- How large beliefs grow, and that every answer is well formed: the proof of the decoders' law, which the impl names.
use Rattle.std.proofs.Common.{◌≡◌, ℕ, zero, suc, ◌+◌, ◌*◌, ◌%◌, ◌<◌, ◌≤◌, Bool, true, false, cond, eqb, List, [], ◌∷◌, map, length, get_or}
use Rattle.std.proofs.Common.{take, ℤ, pos, negsuc, ◌+ℤ◌, neg_ℤ, nat_abs, refl, ap, ◌∙◌, mul-le-mul_right, add-mul, arith}
use Rattle.std.specs.List.{range_with_len, remove, AllByRecursion}
use Rattle.std.proofs.ByRecursion.{All-append, All-map, All-get_or, All-take}
use Rattle.std.proofs.lemmas.Bool.{cond_both}
use Rattle.std.proofs.lemmas.Int.{ints}
use Rattle.std.proofs.lemmas.List.{get_or-map, length-map, take_all}
use Rattle.std.proofs.lemmas.List.FromFn.{get_or-map-range_with_len, length-map-range_with_len}
use Rattle.std.proofs.lemmas.List.Sums.{sum_by-cons, sum_by-take-le}
use Rattle.beliefs.specs.Steps.{signed}
use Rattle.codes.specs.Admission.{degree}
use Rattle.codes.specs.Tells.{sign_bit}
use Rattle.check_rules.specs.Meaning.{Meaning, SoundMeaning}
use Rattle.decoders.specs.Decoding.{Formed}
use Rattle.decoders.specs.Question.{Question, SoundQuestion}
use Rattle.decoders.specs.declared.state.State.{State}
use Rattle.decoders.specs.declared.state.State.TheVariants.{Raw, Punctured, Known0, Known1}
use Rattle.propagation.specs.Check.{negatives, answer, answers}
use Rattle.propagation.specs.Course.{begun, renewed, course, iterations, propagated}
use Rattle.propagation.specs.Passes.{prior, priors, sent_up_to, sent_to, totals_of}
use Rattle.propagation.specs.Promises.{Bounded}

pub nat_abs_neg : (a : ℤ) → nat_abs (neg_ℤ a) ≡ nat_abs a
nat_abs_neg (pos zero) = omega arith
nat_abs_neg (pos (suc n)) = omega arith
nat_abs_neg (negsuc n) = omega arith

pub nat_abs_add : (a b : ℤ) → nat_abs (a +ℤ b) ≤ nat_abs a + nat_abs b
nat_abs_add a b = grind (arith, ints)

pub size_signed : (count a : ℕ) → nat_abs (signed count a) ≡ a
size_signed count a =
    cond_both (eqb (count % 2) 1) (neg_ℤ (pos a)) (pos a) (λ z. nat_abs z ≡ a) (λ _. nat_abs_neg (pos a)) (λ _. refl)

pub prior_low : (rule : Meaning) → SoundMeaning rule → (class : ℕ) (s : State) → nat_abs (prior rule class s) ≤ rule.known
prior_low rule sound class Raw = sound.raw_high class
prior_low rule sound class Punctured = omega arith
prior_low rule sound class Known0 = omega arith
prior_low rule sound class Known1 = omega (arith, nat_abs_neg (pos rule.known))

pub sent_size : (k i : ℕ) (ps : List ℕ) (ss : List ℤ) → AllByRecursion (λ s. nat_abs s ≤ k) ss → nat_abs (sent_to i ps ss) ≤ degree ps i * k
sent_size k i [] ss all = omega arith
sent_size k i (p ∷ ps) [] all = omega arith
sent_size k i (p ∷ ps) (s ∷ ss) (here, all) =
    let rest = sent_size k i ps ss all in
    let parts = nat_abs_add (cond (eqb p i) s (pos 0)) (sent_to i ps ss) in
    let more : degree (p ∷ ps) i * k ≡ cond (eqb p i) 1 0 * k + degree ps i * k =
    ap (λ n. n * k) (sum_by-cons (λ x. cond (eqb x i) 1 0) p ps) ∙ add-mul (cond (eqb p i) 1 0) (degree ps i) k in
    omega (arith, rest, parts, more, one (eqb p i))
  where
    one : (t : Bool) → nat_abs (cond t s (pos 0)) ≤ cond t 1 0 * k
    one true = omega (arith, here)
    one false = omega arith

-- a prior and what the first j entries send are within 17 times the largest belief
pub totalled_size : (priors : List ℤ) (ps : List ℕ) (ss : List ℤ) (k j i : ℕ)
    → AllByRecursion (λ z. nat_abs z ≤ k) ss
    → nat_abs (get_or priors i (pos 0)) ≤ k
    → degree ps i ≤ 16
    → nat_abs (get_or priors i (pos 0) +ℤ sent_to i (take j ps) (take j ss)) ≤ 17 * k
totalled_size priors ps ss k j i all low few =
    let parts = nat_abs_add (get_or priors i (pos 0)) (sent_to i (take j ps) (take j ss)) in
    let sum = sent_size k i (take j ps) (take j ss) (All-take (λ z. nat_abs z ≤ k) j ss all) in
    let fewer : degree (take j ps) i ≤ 16 = omega (arith, sum_by-take-le (λ x. cond (eqb x i) 1 0) ps j) in
    let most : degree (take j ps) i * k ≤ 16 * k = mul-le-mul_right k fewer in
    omega (arith, parts, sum, most, low)

every : {X : Type 0} (P : X → Type 0) → ((x : X) → P x) → (xs : List X) → AllByRecursion P xs
every P h [] = tt
every P h (x ∷ xs) = (h x, every P h xs)

bit_low : (z : ℤ) → sign_bit z < 2
bit_low (pos n) = omega arith
bit_low (negsuc n) = omega arith

module _ (rule : Meaning) (sound : SoundMeaning rule) where
  priors_low : (class : ℕ) (states : List State) → AllByRecursion (λ z. nat_abs z ≤ rule.known) (priors rule class states)
  unfolding priors
  priors_low class states = All-map (λ z. nat_abs z ≤ rule.known) (prior rule class) states (every _ (prior_low rule sound class) states)

  answers_low : (bit : ℕ) (xs : List ℤ) → AllByRecursion (λ z. nat_abs z ≤ rule.known) (answers rule bit xs)
  unfolding answers
  answers_low bit xs =
      All-map (λ z. nat_abs z ≤ rule.known) (answer rule bit xs) (range_with_len 0 (length xs))
      (every (λ i. nat_abs (answer rule bit xs i) ≤ rule.known)
      (λ i. rw (size_signed (negatives (remove xs i) + bit) (rule.sends (map nat_abs (remove xs i)))) (sound.sends_high (map nat_abs (remove xs i))))
      (range_with_len 0 (length xs)))

  sent_low : (ps ends ds : List ℕ) (totals sent : List ℤ) (k : ℕ) → AllByRecursion (λ z. nat_abs z ≤ rule.known) (sent_up_to rule ps ends ds totals sent k)
  unfolding sent_up_to
  sent_low ps ends ds totals sent zero = tt
  sent_low ps ends ds totals sent (suc k) =
      All-append (λ z. nat_abs z ≤ rule.known) (sent_up_to rule ps ends ds totals sent k) _ (sent_low ps ends ds totals sent k) (answers_low _ _)

  module _ (q : Question) where
    long_priors : length (priors rule q.class q.states) ≡ length q.states
    unfolding priors
    long_priors = length-map q.states (prior rule q.class)

    -- a total for each position
    pub course_long : (i : ℕ) → length (course rule q i).totals ≡ length q.states
    unfolding course begun renewed totals_of
    course_long zero = long_priors
    course_long (suc i) = length-map-range_with_len _ 0 (length (priors rule q.class q.states)) ∙ long_priors

    module _ (few : (p : ℕ) → p < length q.states → degree q.code.positions p ≤ 16) where
      prior_at : (p : ℕ) → p < length q.states → nat_abs (get_or (priors rule q.class q.states) p (pos 0)) ≤ rule.known
      prior_at p h = All-get_or (λ z. nat_abs z ≤ rule.known) (priors rule q.class q.states) p (pos 0) (rw long_priors h) (priors_low q.class q.states)

      pub course_bound : (i p : ℕ) → p < length q.states → nat_abs (get_or (course rule q i).totals p (pos 0)) ≤ 17 * rule.known
      unfolding course begun renewed totals_of
      course_bound zero p h = omega (arith, prior_at p h)
      course_bound (suc i) p h =
          let ps = q.code.positions in
          let first = priors rule q.class q.states in
          let ss = (renewed rule q (course rule q i)).sent in
          let j : ℕ = length ps + length ss in
          let all = sent_low ps q.code.ends q.difference (course rule q i).totals (course rule q i).sent _ in
          let size = totalled_size first ps ss rule.known j p all (prior_at p h) (few p h) in
          let whole_ps : take j ps ≡ ps = take_all j ps (omega arith) in
          let whole_ss : take j ss ≡ ss = take_all j ss (omega arith) in
          let value : get_or (totals_of first ps ss) p (pos 0) ≡ get_or first p (pos 0) +ℤ sent_to p ps ss =
          get_or-map-range_with_len (λ n. get_or first n (pos 0) +ℤ sent_to n ps ss) 0 (length first) p p (pos 0) (rw long_priors h) (omega arith) in
          rw value (rw (whole_ps, whole_ss) at size)

  degrees_of : (q : Question) → SoundQuestion q → (p : ℕ) → p < length q.states → degree q.code.positions p ≤ 16
  degrees_of q s p h = (s.matrix.places p (omega (arith, s.states))).1

  pub bounded : (limit : ℕ) → Bounded rule limit
  unfolding propagated
  bounded limit q s p h =
      let i = iterations rule limit q in
      let totals = (course rule q i).totals in
      let near : p < length q.states = omega (arith, s.states) in
      let here : p < length totals = omega (arith, course_long q i) in
      rw (get_or-map nat_abs totals p (pos 0) 0 here) (course_bound q (degrees_of q s) i p near)

  pub propagated_formed : (limit : ℕ) → Formed (propagated rule limit)
  unfolding propagated
  propagated_formed limit q s =
      let totals = (course rule q (iterations rule limit q)).totals in
      let long : length totals ≡ q.code.width = course_long q (iterations rule limit q) ∙ s.states in
      record {
        pattern = record {
          long = length-map totals sign_bit ∙ long;
          bits = λ p h.
              let here : p < length totals = omega arith in
              rw (get_or-map sign_bit totals p (pos 0) 0 here) (bit_low (get_or totals p (pos 0)));
        };
        confident = length-map totals nat_abs ∙ long;
        bounded = λ p h. omega (arith, bounded limit q s p h, sound.known_high);
      }
