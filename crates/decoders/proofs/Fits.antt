-- The test of a pattern: a test at every place below a number, and one check's part of it.
use Rattle.std.proofs.Common.{◌≡◌, ℕ, zero, suc, ◌+◌, ◌-◌, ◌%◌, ◌<◌, ◌≤◌, Bool, true, false, ◌&&◌, eqb, List, ◌∷◌, [], map, length, get_or, take, sym, refl, ap, ◌∙◌, ⊎_elim, add-one, arith}
use Rattle.std.proofs.lemmas.List.{get_or-map, get_or_past, length-map, length-take-le, take_all, take-take}
use Rattle.std.proofs.lemmas.List.Sums.{sum_by-cons}
use Rattle.std.proofs.lemmas.Bool.{and_from, and_left, and_right, and_parts, cases_eq, cases_lt, eq-eqb, ne_eqb}
use Rattle.codes.specs.Code.{Code, checks, check_in}
use Rattle.codes.specs.Syndrome.{parity}
use Rattle.codes.specs.Tells.{byte_bit}
use Rattle.decoders.specs.Question.{asked, bit_of}
use Rattle.decoders.specs.Fit.{all_below, meets, checks_met, agrees_at, pattern_fits}
use Rattle.decoders.specs.declared.state.State.{State}

module _ (test : ℕ → Bool) where
  pub below_more : (k : ℕ) → all_below test k ≡ true → test k ≡ true → all_below test (k + 1) ≡ true
  below_more k h e = rw add-one (and_from (all_below test k) (test k) h e)

  pub below_fails : (n k : ℕ) → k < n → test k ≡ false → all_below test n ≡ false
  below_fails zero k h e = absurd (omega arith)
  below_fails (suc n) k h e =
      ⊎_elim (λ same. and_right (all_below test n) (test n) (rw same at e))
      (λ other. let low : k < n = omega arith in and_left (all_below test n) (test n) (below_fails n k low e))
      (cases_eq k n)

  pub below_at : (n k : ℕ) → k < n → all_below test n ≡ true → test k ≡ true
  below_at zero k h e = absurd (omega arith)
  below_at (suc n) k h e =
      let both = and_parts (all_below test n) (test n) e in
      ⊎_elim (λ same. rw same both.1) (λ other. let low : k < n = omega arith in below_at n k low both.0) (cases_eq k n)

  pub below_all : (n : ℕ) → ((k : ℕ) → k < n → test k ≡ true) → all_below test n ≡ true
  below_all zero h = refl
  below_all (suc n) h =
      and_from (all_below test n) (test n) (below_all n (λ k l. h k (omega arith))) (h n (omega arith))

-- the parity of a check that was gone through to its end
pub gone_through : (pattern ps ends check : List ℕ) (k j sum : ℕ)
    → check ≡ check_in ps ends k
    → j ≡ length check
    → sum ≡ parity pattern (take j check)
    → sum ≡ parity pattern (check_in ps ends k)
gone_through pattern ps ends check k j sum at end e = rw at at (rw (take_all j check (omega (arith, end))) at e)

module _ (ps ends ds pattern : List ℕ) (k sum : ℕ) (h : k < length ds) (e : sum ≡ parity pattern (check_in ps ends k)) where
  whole : meets ps ends (map bit_of ds) pattern k ≡ eqb sum (bit_of (get_or ds k 0))
  whole = rw (← e, get_or-map bit_of ds k 0 0 h) refl

  pub meets_here : sum ≡ bit_of (get_or ds k 0) → meets ps ends (map bit_of ds) pattern k ≡ true
  meets_here same = whole ∙ eq-eqb sum (bit_of (get_or ds k 0)) same

  pub fails_here : (sum ≡ bit_of (get_or ds k 0) → ⊥) → meets ps ends (map bit_of ds) pattern k ≡ false
  fails_here other = whole ∙ ne_eqb sum (bit_of (get_or ds k 0)) other

-- what bytes tell has their parities
parity-told : (bytes ps : List ℕ) → parity (map byte_bit bytes) ps ≡ parity bytes ps
parity-told bytes [] = refl
parity-told bytes (p ∷ ps) =
    let here : get_or (map byte_bit bytes) p 0 % 2 ≡ get_or bytes p 0 % 2 =
    ⊎_elim (λ l. rw (get_or-map byte_bit bytes p 0 0 l) (omega arith))
    (λ past.
    let h : length (map byte_bit bytes) ≤ p = rw length-map past in
    rw (get_or_past (map byte_bit bytes) p 0 h, get_or_past bytes p 0 past) refl)
    (cases_lt p (length bytes)) in
    omega
    (arith, sum_by-cons (λ i. get_or (map byte_bit bytes) i 0) p ps, sum_by-cons (λ i. get_or bytes i 0) p ps, here, parity-told bytes ps)

below_alike : (f g : ℕ → Bool) → ((k : ℕ) → f k ≡ g k) → (n : ℕ) → all_below f n ≡ all_below g n
below_alike f g h zero = refl
below_alike f g h (suc n) = rw (below_alike f g h n, h n) refl

pub met-told : (code : Code) (ds bytes : List ℕ) → checks_met code ds (map byte_bit bytes) ≡ checks_met code ds bytes
met-told code ds bytes =
    below_alike (meets code.positions code.ends ds (map byte_bit bytes)) (meets code.positions code.ends ds bytes)
    (λ k. ap (λ n. eqb n (get_or ds k 0)) (parity-told bytes (check_in code.positions code.ends k))) (length ds)

-- both halves of the test, at the fronts that a call cuts, are the test of the question that it asks
module _ (code : Code) (ds : List ℕ) (states : List State) (pattern : List ℕ) (m n : ℕ) (q : ℕ)
    (at-m : m ≡ checks code) (at_n : n ≡ code.width) (checked : m ≤ length ds) (stated : n ≤ length states) (a : Bool)
    (e : a ≡ checks_met code (map bit_of (take (m - 0) ds)) (map byte_bit (take (n - 0) pattern))) where
  pub fits_both : (b : Bool)
      → b ≡ all_below (agrees_at (take (n - 0) states) (take (n - 0) pattern)) (length (take (n - 0) states))
      → (a && b) ≡ pattern_fits (asked code ds states q) (take code.width pattern)
  unfolding asked pattern_fits
  fits_both b f =
      let whole-n : n - 0 ≡ n = omega arith in
      let whole-m : m - 0 ≡ m = omega arith in
      let long : length (take n states) ≡ n = length-take-le n states stated in
      let met : length (map bit_of (take m ds)) ≡ m = length-map (take m ds) bit_of ∙ length-take-le m ds checked in
      rw (e, f, met-told code (map bit_of (take (m - 0) ds)) (take (n - 0) pattern), whole-n, whole-m, long, met, at-m, at_n) refl

  pub fits-checked : (b : Bool)
      → a ≡ true
      → b ≡ all_below (agrees_at (take (n - 0) states) (take (n - 0) pattern)) (length (take (n - 0) states))
      → b ≡ pattern_fits (asked code ds states q) (take code.width pattern)
  fits-checked b taken f = sym (ap (λ t. t && b) taken) ∙ fits_both b f

  pub fits_failed : a ≡ false → a ≡ pattern_fits (asked code ds states q) (take code.width pattern)
  fits_failed left =
      let b = all_below (agrees_at (take (n - 0) states) (take (n - 0) pattern)) (length (take (n - 0) states)) in
      left ∙ sym (ap (λ t. t && b) left) ∙ fits_both b refl

-- runs that are cut to what the matrix asks put the same question
pub fronts_ask : (code : Code) (ds ds' : List ℕ) (states states' : List State) (q : ℕ)
    → ds' ≡ take (checks code) ds
    → states' ≡ take code.width states
    → asked code ds' states' q ≡ asked code ds states q
unfolding asked
fronts_ask code ds ds' states states' q d s =
    let bits = take-take (checks code) (checks code) ds (omega arith) in
    let known = take-take code.width code.width states (omega arith) in
    rw (d, s, bits, known) refl
