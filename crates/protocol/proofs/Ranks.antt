-- Counting places, and how many places of a strict order have fewer than k before them: k.
use Rattle.std.proofs.Common.{◌≡◌, ℕ, zero, suc, ◌+◌, ◌-◌, ◌<◌, ◌≤◌, Bool, true, false, cond, ◌&&◌, eqb, ltb, ◌⊎◌, List, get_or, sym, refl, ◌∙◌, ⊎_elim, arith}
use Rattle.std.proofs.lemmas.Grind.{common_steps}
use Rattle.std.proofs.lemmas.Bool.{cases_Bool, cases_eq, cases_order, and_parts, and_from, and_left, and_right, ltb-true, lt-ltb, le-ltb, eqb-true, eq-eqb, ne_eqb, both_ways, or_cases, or_left, or_right}
use Rattle.protocol.specs.Counting.{tally}
use Rattle.protocol.specs.Asking.{less_sure}

pub tally_le : (p q : ℕ → Bool) (n : ℕ) → ((i : ℕ) → i < n → p i ≡ true → q i ≡ true) → tally p n ≤ tally q n
unfolding tally
tally_le p q zero h = omega arith
tally_le p q (suc n) h = grind (arith, common_steps, tally_le p q n (λ i l. h i (omega arith)), both_ways)

pub tally_cong : (p q : ℕ → Bool) (n : ℕ) → ((i : ℕ) → i < n → p i ≡ q i) → tally p n ≡ tally q n
unfolding tally
tally_cong p q zero h = refl
tally_cong p q (suc n) h = grind (arith, common_steps, tally_cong p q n (λ i l. h i (omega arith)))

-- one more place in q than in p
pub tally-less : (p q : ℕ → Bool) (n : ℕ) → ((i : ℕ) → i < n → p i ≡ true → q i ≡ true)
    → (x : ℕ) → x < n → p x ≡ false → q x ≡ true → tally p n < tally q n
unfolding tally
tally-less p q zero h x l a b = absurd (omega arith)
tally-less p q (suc n) h x l a b =
    ⊎_elim
    (λ here.
    let rest = tally_le p q n (λ i m. h i (omega arith)) in
    let pn : p n ≡ false = rw (← here) a in
    let qn : q n ≡ true = rw (← here) b in
    rw (pn, qn) (omega arith))
    (λ ne.
    let rest = tally-less p q n (λ i m. h i (omega arith)) x (omega arith) a b in
    let last : cond (p n) 1 0 ≤ cond (q n) 1 0 = go (p n) (q n) (h n (omega arith)) in
    omega arith)
    (cases_eq x n)
  where
    go : (a b : Bool) → (a ≡ true → b ≡ true) → cond a 1 0 ≤ cond b 1 0
    go true true f = omega arith
    go true false f = absurd (both_ways false refl (f refl))
    go false b f = omega arith

pub tally-bound : (p : ℕ → Bool) (n : ℕ) → tally p n ≤ n
unfolding tally
tally-bound p zero = omega arith
tally-bound p (suc n) = grind (arith, common_steps, tally-bound p n)

pub tally-none : (p : ℕ → Bool) (n : ℕ) → ((i : ℕ) → i < n → p i ≡ false) → tally p n ≡ 0
unfolding tally
tally-none p zero h = refl
tally-none p (suc n) h = let rest = tally-none p n (λ i l. h i (omega arith)) in let last = h n (omega arith) in rw (rest, last)

-- two tests that exclude each other, and the test that either passes
pub tally_split : (p q r : ℕ → Bool) (n : ℕ)
    → ((i : ℕ) → i < n → cond (r i) 1 0 ≡ cond (p i) 1 0 + cond (q i) 1 0) → tally r n ≡ tally p n + tally q n
unfolding tally
tally_split p q r zero h = refl
tally_split p q r (suc n) h = grind (arith, common_steps, tally_split p q r n (λ i l. h i (omega arith)))

-- a test that no two places pass
pub tally-once : (p : ℕ → Bool) (n : ℕ) → ((i j : ℕ) → i < n → j < n → p i ≡ true → p j ≡ true → i ≡ j) → tally p n ≤ 1
unfolding tally
tally-once p zero h = omega arith
tally-once p (suc n) h = go (p n) refl (tally-once p n (λ i j a b. h i j (omega arith) (omega arith)))
  where
    none : p n ≡ true → (m : ℕ) → m ≤ n → tally p m ≡ 0
    none e zero l = refl
    none e (suc m) l = grind (arith, common_steps, none e m (omega arith), cases_Bool)

    go : (t : Bool) → p n ≡ t → tally p n ≤ 1 → tally p n + cond (p n) 1 0 ≤ 1
    go true e rest = let z = none e n (omega arith) in rw (e, z) (omega arith)
    go false e rest = rw e (omega arith)

module _ (n : ℕ) (own : ℕ → Bool) (less : ℕ → ℕ → Bool)
    (irreflexive : (i : ℕ) → less i i ≡ false)
    (transitive : (i j k : ℕ) → less i j ≡ true → less j k ≡ true → less i k ≡ true)
    (total : (i j : ℕ) → (i ≡ j → ⊥) → (less i j ≡ true) ⊎ (less j i ≡ true)) where
  -- how many own places come before i
  abbrev pub rank : ℕ → ℕ
  rank i = tally (λ j. own j && less j i) n

  rank_less : (i j : ℕ) → i < n → own i ≡ true → less i j ≡ true → rank i < rank j
  rank_less i j l o e =
      tally-less (λ k. own k && less k i) (λ k. own k && less k j) n
      (λ k m both.
      let b = and_parts (own k) (less k i) both in
      and_from (own k) (less k j) b.0 (transitive k i j b.1 e))
      i l (and_right (own i) (less i i) (irreflexive i)) (and_from (own i) (less i j) o e)

  abbrev pub within : ℕ → ℕ → Bool
  within k i = own i && ltb (rank i) k

  same_rank : (i j : ℕ) → i < n → j < n → own i ≡ true → own j ≡ true → rank i ≡ rank j → i ≡ j
  same_rank i j a b oi oj e = grind (arith, common_steps, rank_less, cases_eq)

  -- one place at the most for each rank
  step_up : (k : ℕ) → tally (within (suc k)) n ≤ tally (within k) n + 1
  step_up k =
      let split =
      tally_split (within k) (λ i. own i && eqb (rank i) k) (within (suc k)) n (λ i l. each (own i) (rank i)) in
      let once =
      tally-once (λ i. own i && eqb (rank i) k) n
      (λ i j a b p q.
      let x = and_parts (own i) (eqb (rank i) k) p in
      let y = and_parts (own j) (eqb (rank j) k) q in
      same_rank i j a b x.0 y.0 (eqb-true (rank i) k x.1 ∙ sym (eqb-true (rank j) k y.1))) in
      omega arith
    where
      each : (o : Bool) (r : ℕ) → cond (o && ltb r (suc k)) 1 0 ≡ cond (o && ltb r k) 1 0 + cond (o && eqb r k) 1 0
      each false r = refl
      each true r = grind (arith, common_steps, lt-ltb, le-ltb, eq-eqb, ne_eqb, cases_order)

  none_within : (m : ℕ) → tally (within 0) m ≡ 0
  unfolding tally
  none_within zero = refl
  none_within (suc m) = grind (arith, common_steps, none_within m, and_right, le-ltb)

  most : (k : ℕ) → tally (within k) n ≤ k
  most zero = omega (arith, none_within n)
  most (suc k) = let a = most k in let b = step_up k in omega arith

  -- every own place has fewer before it than there are
  all_within : tally (within (tally own n)) n ≡ tally own n
  all_within =
      tally_cong (within (tally own n)) own n
      (λ i l.
      ⊎_elim
      (λ o.
      let lower =
      tally-less (λ j. own j && less j i) own n (λ j m both. (and_parts (own j) (less j i) both).0) i l
      (and_right (own i) (less i i) (irreflexive i)) o in
      and_from (own i) (ltb (rank i) (tally own n)) o (lt-ltb (rank i) (tally own n) lower) ∙ sym o)
      (λ f. and_left (own i) (ltb (rank i) (tally own n)) f ∙ sym f) (cases_Bool (own i)))

  least : (d k : ℕ) → k + d ≡ tally own n → k ≤ tally (within k) n
  least zero k e = let same : k ≡ tally own n = omega arith in rw same (omega (arith, all_within))
  least (suc d) k e = omega (arith, least d (suc k) (omega arith), step_up k)

  pub exactly : (k : ℕ) → k ≤ tally own n → tally (within k) n ≡ k
  exactly k l = omega (arith, most k, least (tally own n - k) k (omega arith))

-- less sure is a strict order
module _ (confidence : List ℕ) where
  abbrev conf : ℕ → ℕ
  conf i = get_or confidence i 0

  less_parts : (i j : ℕ) → less_sure confidence i j ≡ true → (conf i < conf j) ⊎ ((conf i ≡ conf j) × (i < j))
  less_parts i j e = grind (arith, common_steps, ltb-true, and_parts, eqb-true, or_cases)

  less_from : (i j : ℕ) → (conf i < conf j) ⊎ ((conf i ≡ conf j) × (i < j)) → less_sure confidence i j ≡ true
  less_from i j h = grind (arith, common_steps, or_left, lt-ltb, or_right, and_from, eq-eqb)

  sure_irreflexive : (i : ℕ) → less_sure confidence i i ≡ false
  sure_irreflexive i = grind (arith, common_steps, less_parts, cases_Bool)

  sure_transitive : (i j k : ℕ) → less_sure confidence i j ≡ true → less_sure confidence j k ≡ true → less_sure confidence i k ≡ true
  sure_transitive i j k a b = grind (arith, common_steps, less_from, less_parts)

  sure_total : (i j : ℕ) → (i ≡ j → ⊥) → (less_sure confidence i j ≡ true) ⊎ (less_sure confidence j i ≡ true)
  sure_total i j ne = grind (arith, common_steps, less_from, cases_order)

  -- of the own places exactly k are among the k least sure
  pub least_sure : (n : ℕ) (own : ℕ → Bool) (k : ℕ) → k ≤ tally own n
      → tally (λ i. own i && ltb (tally (λ j. own j && less_sure confidence j i) n) k) n ≡ k
  least_sure n own k l = exactly n own (less_sure confidence) sure_irreflexive sure_transitive sure_total k l
