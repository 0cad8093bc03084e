-- The search for the first wrong place finds it, and finds none where there is none.
use Rattle.std.proofs.Common.{◌≡◌, ℕ, zero, suc, ◌≤◌, Bool, true, false, cond, ◌&&◌, Some, None, Option, refl, ⊎_elim, arith}
use Rattle.std.proofs.lemmas.Bool.{cases_lt, both_ways}
use Rattle.codes.specs.Places.{AllBelow, FirstFault}
use Rattle.frames.specs.Reading.{first_wrong, sooner}

pub not-true : (t : Bool) → (t ≡ true → ⊥) → t ≡ false
not-true true no_way = absurd (no_way refl)
not-true false no_way = refl

pub three : (x y z : Bool) → x ≡ true → y ≡ true → z ≡ true → (x && (y && z)) ≡ true
three x y z p q r = rw (p, q, r)

pub three_parts : (x y z : Bool) → (x && (y && z)) ≡ true → (x ≡ true) × (y ≡ true) × (z ≡ true)
three_parts true true true e = (refl, refl, refl)
three_parts true true false e = absurd (both_ways false refl e)
three_parts true false z e = absurd (both_ways false refl e)
three_parts false y z e = absurd (both_ways false refl e)

module _ (test : ℕ → Bool) where
  pub none_wrong : (n : ℕ) → AllBelow (λ k. test k ≡ true) n → first_wrong test n ≡ None
  none_wrong zero all = refl
  none_wrong (suc n) all =
      let before = none_wrong n (λ k l. all k (omega arith)) in
      let here = all n (omega arith) in
      rw (before, here)

  pub first_wrong_is : (n i : ℕ) → FirstFault (λ k. test k ≡ true) n i → first_wrong test n ≡ Some i
  first_wrong_is zero i f = absurd (omega (arith, f.0))
  first_wrong_is (suc n) i f = ⊎_elim (λ l. let before = first_wrong_is n i (l, f.1, f.2) in rw before) here (cases_lt i n)
    where
      here : n ≤ i → first_wrong test (suc n) ≡ Some i
      here l =
          let e : i ≡ n = omega (arith, f.0) in
          let before = none_wrong n (λ k lk. f.2 k (omega arith)) in
          let bad : test i ≡ false = not-true (test i) f.1 in
          let bad' : test n ≡ false = rw e at bad in
          rw (before, bad', e)

  pub all_right : (n : ℕ) → first_wrong test n ≡ None → AllBelow (λ k. test k ≡ true) n
  all_right zero e = λ k l. absurd (omega arith)
  all_right (suc n) e = go (first_wrong test n) (test n) e refl refl (all_right n)
    where
      go : (o : Option ℕ) (t : Bool) → sooner o (cond t None (Some n)) ≡ None → first_wrong test n ≡ o → test n ≡ t
          → (first_wrong test n ≡ None → AllBelow (λ k. test k ≡ true) n) → AllBelow (λ k. test k ≡ true) (suc n)
      go None true e before here below k l = ⊎_elim (λ lk. below before k lk) (λ lk. let k≡n : k ≡ n = omega arith in rw k≡n here) (cases_lt k n)
      go None false e before here below k l = let z : ◌≡◌ {A = ℕ} 0 1 = cc in absurd (omega arith)
      go (Some i) t e before here below k l = let z : ◌≡◌ {A = ℕ} 0 1 = cc in absurd (omega arith)
