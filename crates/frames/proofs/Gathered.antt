-- The map of the positions that pass a test, and what is gathered there, position by position.
use Rattle.std.proofs.Common.{◌≡◌, ℕ, zero, suc, ◌+◌, ◌<◌, Bool, true, false, cond, List, [], ◌∷◌, ◌++◌, map, filter, length, get_or, take, eqb, count_by, ◌≤◌, sum, sym, refl, ap, ◌∙◌, add-one, arith}
use Rattle.std.specs.List.{range_with_len, enumerate_from}
use Rattle.std.proofs.lemmas.List.FromFn.{length-map-range_with_len, map-range_with_len_more, fill_by_all, length-enumerate_from, get_or-enumerate_from, filter_of_map_range_with_len_more}
use Rattle.std.proofs.lemmas.List.{append-nil, length_push, take_all, length-map, get_or-map, map-append}
use Rattle.std.proofs.lemmas.List.Sums.{sum_by_push, count_by_more_yes, count_by_more_no}
use Rattle.runs.specs.Bits.{bit_of, IsBits}
use Rattle.runs.proofs.Packed.{push_bits}
use Rattle.frames.specs.Writing.{map_of, gathered, in_round, key_bit}

pub mark-small : (t : Bool) → cond t 1 0 < 2
mark-small true = omega arith
mark-small false = omega arith

pub mark-bit : (t : Bool) → bit_of (cond t 1 0) ≡ cond t 1 0
mark-bit true = refl
mark-bit false = refl

module _ (test : ℕ → Bool) where
  pub map_of_more : (i : ℕ) → map_of test (i + 1) ≡ map_of test i ++ cond (test i) 1 0 ∷ []
  unfolding map_of
  map_of_more i = map-range_with_len_more (λ i. cond (test i) 1 0) 0 i i (omega arith)

  pub length-map_of : (n : ℕ) → length (map_of test n) ≡ n
  unfolding map_of
  length-map_of n = length-map-range_with_len (λ i. cond (test i) 1 0) 0 n

  pub map_of-none : map_of test 0 ≡ []
  unfolding map_of
  map_of-none = refl

  none-marked : IsBits (map_of test 0)
  unfolding map_of
  none-marked i = omega arith

  pub map_of-bits : (n : ℕ) → IsBits (map_of test n)
  map_of-bits zero = none-marked
  map_of-bits (suc n) =
      let e : map_of test (suc n) ≡ map_of test n ++ cond (test n) 1 0 ∷ [] = rw (sym (add-one n)) (map_of_more n) in
      rw e (push_bits (map_of test n) (cond (test n) 1 0) (map_of-bits n) (mark-small (test n)))

  pub sum-map_of_more : (i : ℕ) → sum (map_of test (i + 1)) ≡ sum (map_of test i) + cond (test i) 1 0
  sum-map_of_more i = ap sum (map_of_more i) ∙ sum_by_push (λ x. x) (map_of test i) (cond (test i) 1 0)

  module _ (f : ℕ → ℕ) where
    pub gathered_none : gathered test f 0 ≡ []
    unfolding gathered
    gathered_none = refl

    gathered-suc : (i : ℕ) → gathered test f (suc i) ≡ gathered test f i ++ cond (test i) (f i ∷ []) []
    unfolding gathered
    gathered-suc i = refl

    more_bits : (xs : List ℕ) (t : Bool) (v : ℕ) → IsBits xs → v < 2 → IsBits (xs ++ cond t (v ∷ []) [])
    more_bits xs true v small l = push_bits xs v small l
    more_bits xs false v small l = rw (append-nil xs) small

    pub gathered-bits : ((i : ℕ) → f i < 2) → (n : ℕ) → IsBits (gathered test f n)
    gathered-bits small zero = rw gathered_none (λ i. omega arith)
    gathered-bits small (suc n) = rw (gathered-suc n) (more_bits (gathered test f n) (test n) (f n) (gathered-bits small n) (small n))

    more_length : (xs : List ℕ) (t : Bool) (v : ℕ) → length (xs ++ cond t (v ∷ []) []) ≡ length xs + cond t 1 0
    more_length xs true v = length_push xs v
    more_length xs false v = let e = ap length (append-nil xs) in omega arith

    -- one bit for each position that is marked
    pub length-gathered : (n : ℕ) → length (gathered test f n) ≡ sum (map_of test n)
    length-gathered zero = ap length gathered_none ∙ sym (ap sum map_of-none)
    length-gathered (suc n) =
        ap length (gathered-suc n) ∙ more_length (gathered test f n) (test n) (f n)
        ∙ ap (λ (x : ℕ). x + cond (test n) 1 0) (length-gathered n)
        ∙ sym (rw (sym (add-one n)) (sum-map_of_more n))

-- how many of a list are r is how many places have r
counted_to : (r : ℕ) (rounds : List ℕ) (i : ℕ) → i ≤ length rounds → count_by (λ x. eqb x r) (take i rounds) ≡ sum (map_of (in_round r rounds) i)
counted_to r rounds zero l = ap sum (sym (map_of-none (in_round r rounds)))
counted_to r rounds (suc i) l =
    let before = counted_to r rounds i (omega arith) in
    let more = sum-map_of_more (in_round r rounds) i in
    rw (sym (add-one i)) (step (eqb (get_or rounds i 0) r) refl before more)
  where
    step : (t : Bool) → eqb (get_or rounds i 0) r ≡ t → count_by (λ x. eqb x r) (take i rounds) ≡ sum (map_of (in_round r rounds) i)
        → sum (map_of (in_round r rounds) (i + 1)) ≡ sum (map_of (in_round r rounds) i) + cond (eqb (get_or rounds i 0) r) 1 0
        → count_by (λ x. eqb x r) (take (i + 1) rounds) ≡ sum (map_of (in_round r rounds) (i + 1))
    step true e before more = let yes = count_by_more_yes (λ x. eqb x r) rounds i 0 (omega arith) e in grind arith
    step false e before more = let no = count_by_more_no (λ x. eqb x r) rounds i 0 (omega arith) e in grind arith

pub counted : (r : ℕ) (rounds : List ℕ) → count_by (λ x. eqb x r) rounds ≡ sum (map_of (in_round r rounds) (length rounds))
counted r rounds = let all = take_all (length rounds) rounds (omega arith) in rw all at (counted_to r rounds (length rounds) (omega arith))

-- the map's bits, as they come
pub marked : (r : ℕ) (rounds : List ℕ) → map bit_of (map (λ x. cond (eqb x r) 1 0) rounds) ≡ map_of (in_round r rounds) (length rounds)
unfolding map_of
marked r rounds =
    let mark = λ (x : ℕ). cond (eqb x r) 1 0 in
    fill_by_all (λ i. cond (in_round r rounds i) 1 0) (map bit_of (map mark rounds)) (length rounds) 0
    (length-map (map mark rounds) bit_of ∙ length-map rounds mark)
    (λ i l. let within : i < length (map mark rounds) = omega (arith, length-map rounds mark) in
    get_or-map bit_of (map mark rounds) i 0 0 within ∙ ap bit_of (get_or-map mark rounds i 0 0 l) ∙ mark-bit (in_round r rounds i))

-- what a chain over the places and their rounds gathers, place by place
module _ (r : ℕ) (rounds key : List ℕ) where
  abbrev placed : ℕ → ℕ × ℕ
  placed i = (i, get_or rounds i 0)

  abbrev here : ℕ × ℕ → Bool
  here x = eqb x.1 r

  abbrev byte : ℕ × ℕ → ℕ
  byte x = get_or key x.0 0

  abbrev told : List (ℕ × ℕ) → List ℕ
  told xs = map bit_of (map byte xs)

  places : enumerate_from 0 rounds ≡ map placed (range_with_len 0 (length rounds))
  places =
      fill_by_all placed (enumerate_from 0 rounds) (length rounds) (0, 0) (length-enumerate_from 0 rounds)
      (λ i l. let at : 0 + i ≡ i = omega arith in get_or-enumerate_from 0 rounds i (0, 0) l ∙ ap (λ (j : ℕ). (j, get_or rounds i 0)) at)

  one_more : (xs : List (ℕ × ℕ)) (t : Bool) (x : ℕ × ℕ) → told (xs ++ cond t (x ∷ []) []) ≡ told xs ++ cond t (bit_of (byte x) ∷ []) []
  one_more xs true x = ap (map bit_of) (map-append {A = ℕ × ℕ} byte xs (x ∷ [])) ∙ map-append bit_of (map byte xs) (byte x ∷ [])
  one_more xs false x = ap (map bit_of) (map-append {A = ℕ × ℕ} byte xs []) ∙ map-append bit_of (map byte xs) []

  gathered_to : (n : ℕ) → told (filter here (map placed (range_with_len 0 n))) ≡ gathered (in_round r rounds) (key_bit key) n
  gathered_to zero = sym (gathered_none (in_round r rounds) (key_bit key))
  gathered_to (suc n) =
      let more = filter_of_map_range_with_len_more here placed 0 n n (omega arith) in
      let parts = one_more (filter here (map placed (range_with_len 0 n))) (here (placed n)) (placed n) in
      let was = gathered_to n in
      let next : told (filter here (map placed (range_with_len 0 (n + 1)))) ≡ gathered (in_round r rounds) (key_bit key) (suc n) =
      ap told more ∙ parts ∙ ap (λ (xs : List ℕ). xs ++ cond (here (placed n)) (bit_of (byte (placed n)) ∷ []) []) was
      ∙ sym (gathered-suc (in_round r rounds) (key_bit key) n) in
      rw (add-one n) at next

  pub gathers : map bit_of (map byte (filter here (enumerate_from 0 rounds))) ≡ gathered (in_round r rounds) (key_bit key) (length rounds)
  gathers = rw places (gathered_to (length rounds))
