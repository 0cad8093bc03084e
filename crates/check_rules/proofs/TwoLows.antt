-- The two smallest magnitudes answer for every place at once.
use Rattle.std.proofs.Common.{◌≡◌, ℕ, zero, suc, ◌+◌, ◌-◌, ◌*◌, ◌%◌, ◌<◌, ◌≤◌, min, max, Bool, true, false, cond, eqb, ltb}
use Rattle.std.proofs.Common.{List, [], ◌∷◌, ◌++◌, map, length, get_or, ℤ, pos, neg_ℤ, sym, refl, ap, ◌∙◌, ⊎_elim, arith}
use mir.Val.{bool_byte}
use Rattle.std.specs.List.{remove}
use Rattle.std.proofs.lemmas.List.{get_or_append_left, get_or_push, get_or-map, length-map, length_push}
use Rattle.std.proofs.lemmas.List.Sums.{fold_push}
use Rattle.std.proofs.lemmas.Bool.{cases_lt}
use Rattle.std.proofs.lemmas.Bool.Decides.{nat_tests}
use Rattle.beliefs.specs.Steps.{signed}
use Rattle.check_rules.specs.Offset.{smallest}
use Rattle.check_rules.specs.Lows.{LowsOf, replies_of}
use Rattle.check_rules.proofs.Others.{removed_below, removed_last}

below : (least next m x s : ℕ)
    → least ≤ next → least ≤ x
    → s ≡ cond (ltb least x) least next
    → min s m ≡ cond (ltb (min least m) x) (min least m) (min next (max least m))
below least next m x s a b e = grind (arith, nat_tests)

last : (least next m : ℕ) → least ≤ next → least ≡ cond (ltb (min least m) m) (min least m) (min next (max least m))
last least next m a = grind (arith, nat_tests)

pub lows_more : (k : ℕ) (xs : List ℕ) (least next m : ℕ)
    → LowsOf k xs least next
    → LowsOf k (xs ++ m ∷ []) (min least m) (min next (max least m))
lows_more k xs least next m l =
    let grown = fold_push min k xs m in
    record {
      least_is = rw grown (ap (λ n. min n m) l.least_is);
      ordered = omega (arith, l.ordered);
      high = omega (arith, l.high);
      low = λ i h. grind (arith, l.low, get_or_push, get_or_append_left, length_push);
      without = λ i h.
          ⊎_elim
          (λ (near : i < length xs).
          rw (removed_below xs m i near, fold_push min k (remove xs i) m, get_or_append_left xs (m ∷ []) 0 i near)
          (below least next m (get_or xs i 0) (smallest k (remove xs i)) l.ordered (l.low i near) (l.without i near)))
          (λ (far : length xs ≤ i).
          let e : i ≡ length xs = omega (arith, length_push xs m) in
          rw (e, removed_last xs m, get_or_push xs m 0 (length xs) refl, ← l.least_is) (last least next m l.ordered))
          (cases_lt i (length xs));
    }

-- what stands in the table of replies
chosen : (t : Bool) (p lo hi : ℕ)
    → p < 2
    → get_or (pos lo ∷ pos hi ∷ neg_ℤ (pos lo) ∷ neg_ℤ (pos hi) ∷ []) (bool_byte t + 2 * p) (pos 0)
    ≡ cond (eqb p 1) (neg_ℤ (pos (cond t hi lo))) (pos (cond t hi lo))
chosen true zero lo hi h = refl
chosen false zero lo hi h = refl
chosen true (suc zero) lo hi h = refl
chosen false (suc zero) lo hi h = refl
chosen t (suc (suc p)) lo hi h = absurd (omega arith)

less : (t : Bool) (a b : ℕ) → cond t (a - 4) (b - 4) ≡ cond t a b - 4
less true a b = refl
less false a b = refl

-- the reply to a magnitude is the smallest of the others less the offset
pub low_reply : {X : Type 0} (eighths : X → ℤ) (sent : List X) (xs : List ℕ) (a b i count : ℕ) (t : Bool) (d : X)
    → LowsOf 800 xs a b
    → map eighths sent ≡ replies_of a b
    → i < length xs
    → t ≡ ltb a (get_or xs i 0)
    → eighths (get_or sent (bool_byte t + 2 * (count % 2)) d) ≡ signed count (smallest 800 (remove xs i) - 4)
low_reply eighths sent xs a b i count t d lows is h e =
    let long : length sent ≡ 4 = sym (length-map sent eighths) ∙ ap length is in
    let low : bool_byte t ≤ 1 = bool_low t in
    let near : bool_byte t + 2 * (count % 2) < length sent = omega (arith, long, low) in
    let least : cond t (a - 4) (b - 4) ≡ smallest 800 (remove xs i) - 4 =
    less t a b ∙ ap (λ n. n - 4) (sym (lows.without i h ∙ ap (λ u. cond u a b) (sym e))) in
    sym (get_or-map eighths sent (bool_byte t + 2 * (count % 2)) d (pos 0) near)
    ∙ ap (λ zs. get_or zs (bool_byte t + 2 * (count % 2)) (pos 0)) is
    ∙ chosen t (count % 2) (b - 4) (a - 4) (omega arith) ∙ ap (signed count) least
  where
    bool_low : (t : Bool) → bool_byte t ≤ 1
    bool_low true = omega arith
    bool_low false = omega arith
