-- The steps of a parity, and the sum of two words.
use Rattle.std.proofs.Common.{◌≡◌, ◌≢◌, ℕ, suc, ◌+◌, ◌%◌, ◌<◌, ◌≤◌, List, [], ◌∷◌, map, length, get_or, set, take, replicate, sym, refl, ap, ◌∙◌, ⊎_elim, arith}
use Rattle.std.proofs.lemmas.List.{get_or-map, get_or-set_other, length-set, get_or_past, length-map, get_or-replicate, length-replicate, ext_get_or}
use Rattle.std.proofs.lemmas.List.Sums.{sum_by_more, sum_by-cons}
use Rattle.std.proofs.lemmas.List.FromFn.{get_or-map-range_with_len, length-map-range_with_len, fill_by_all}
use Rattle.std.proofs.lemmas.List.Edits.{fill_by_more}
use Rattle.std.proofs.lemmas.Bool.{cases_lt}
use Rattle.codes.specs.Places.{AllBelow}
use Rattle.codes.specs.Tells.{byte_bit}
use Rattle.codes.specs.Code.{Code, check, checks}
use Rattle.codes.specs.Syndrome.{parity, syndrome, added}

pub parity_more : (bits ps : List ℕ) (i : ℕ)
    → i < length ps
    → parity bits (take (i + 1) ps) ≡ (parity bits (take i ps) + get_or bits (get_or ps i 0) 0) % 2
parity_more bits ps i h = omega (arith, sum_by_more (λ p. get_or bits p 0) ps i 0 h)

module _ {X : Type 0} (told : X → ℕ) (xs : List X) (ps : List ℕ) (i sum : ℕ) (h : i < length ps)
    (inv : sum ≡ parity (map told xs) (take i ps)) where
  -- a position within the slice adds what its element tells
  pub parity_here : (x : X) (b : ℕ)
      → get_or ps i 0 < length xs
      → x ≡ get_or xs (get_or ps i 0) x
      → b ≡ told x
      → (sum + b) % 2 ≡ parity (map told xs) (take (i + 1) ps)
  parity_here x b l e t =
      let a = parity_more (map told xs) ps i h in
      let m : get_or (map told xs) (get_or ps i 0) 0 ≡ b = get_or-map told xs (get_or ps i 0) x 0 l ∙ sym (ap told e) ∙ sym t in
      omega (arith, a, m, inv)

  -- one past its end adds nothing
  pub parity_past : length xs ≤ get_or ps i 0 → sum ≡ parity (map told xs) (take (i + 1) ps)
  parity_past l =
      let a = parity_more (map told xs) ps i h in
      let s : length (map told xs) ≤ get_or ps i 0 = simp length-map l in
      let m = get_or_past (map told xs) (get_or ps i 0) 0 s in
      omega (arith, a, m, inv)

-- key bytes that are 0 or 1 tell themselves
pub bytes_tell : (key : List ℕ) → AllBelow (λ i. get_or key i 0 < 2) (length key) → map byte_bit key ≡ key
bytes_tell [] h = refl
bytes_tell (b ∷ key) h =
    let here : b < 2 = h 0 (omega arith) in
    let e : b % 2 ≡ b = omega arith in
    let rest = bytes_tell key (λ i l. h (suc i) (omega arith)) in
    cc

-- a syndrome bit is its check's parity
pub syndrome_at : (code : Code) (key : List ℕ) (k : ℕ) → k < checks code → get_or (syndrome code key) k 0 ≡ parity key (check code k)
syndrome_at code key k h = get_or-map-range_with_len (λ j. parity key (check code j)) 0 (checks code) k k 0 h (omega arith)

pub syndrome-length : (code : Code) (key : List ℕ) → length (syndrome code key) ≡ checks code
syndrome-length code key = length-map-range_with_len (λ j. parity key (check code j)) 0 (checks code)

pub same_mod : (a b c d : ℕ) → a % 2 ≡ c % 2 → b % 2 ≡ d % 2 → (a + b) % 2 ≡ (c + d) % 2
same_mod a b c d e f = omega arith

pub mod_mod : (a : ℕ) → (a % 2) % 2 ≡ a % 2
mod_mod a = omega arith

add_bits : (x y z s t u : ℕ) → x ≡ (y + z) % 2 → s % 2 ≡ (t % 2 + u % 2) % 2 → (x + s) % 2 ≡ ((y + t) % 2 + (z + u) % 2) % 2
add_bits x y z s t u e f =
    let sums : s % 2 ≡ (t + u) % 2 = f ∙ same_mod (t % 2) (u % 2) t u (mod_mod t) (mod_mod u) in
    let left = same_mod x s (y + z) (t + u) (ap (λ n. n % 2) e ∙ mod_mod (y + z)) sums in
    let right = same_mod ((y + t) % 2) ((z + u) % 2) (y + t) (z + u) (mod_mod (y + t)) (mod_mod (z + u)) in
    let middle : (y + z) + (t + u) ≡ (y + t) + (z + u) = omega arith in
    left ∙ ap (λ n. n % 2) middle ∙ sym right

module _ (a b : List ℕ) (fits : length b ≤ length a) where
  pub added_at : (p : ℕ) → get_or (added a b) p 0 ≡ (get_or a p 0 + get_or b p 0) % 2
  added_at p =
      ⊎_elim (λ h. get_or-map-range_with_len (λ i. (get_or a i 0 + get_or b i 0) % 2) 0 (length a) p p 0 h (omega arith))
      (λ past.
      let l : length (added a b) ≤ p = rw (length-map-range_with_len (λ i. (get_or a i 0 + get_or b i 0) % 2) 0 (length a)) past in
      let m : length b ≤ p = omega arith in
      omega (arith, get_or_past (added a b) p 0 l, get_or_past a p 0 past, get_or_past b p 0 m))
      (cases_lt p (length a))

  pub parity-added : (ps : List ℕ) → parity (added a b) ps ≡ (parity a ps + parity b ps) % 2
  parity-added [] = refl
  parity-added (p ∷ ps) =
      rw (sum_by-cons (λ i. get_or (added a b) i 0) p ps, sum_by-cons (λ i. get_or a i 0) p ps, sum_by-cons (λ i. get_or b i 0) p ps)
      (add_bits (get_or (added a b) p 0) (get_or a p 0) (get_or b p 0) _ _ _ (added_at p) (parity-added ps))

  pub syndrome-added : (code : Code) → syndrome code (added a b) ≡ added (syndrome code a) (syndrome code b)
  syndrome-added code =
      fill_by_all (λ i. (get_or (syndrome code a) i 0 + get_or (syndrome code b) i 0) % 2) (syndrome code (added a b))
      (length (syndrome code a)) 0 (syndrome-length code (added a b) ∙ sym (syndrome-length code a))
      (λ k h.
      let l : k < checks code = rw (syndrome-length code a) at h in
      syndrome_at code (added a b) k l ∙ parity-added (check code k)
      ∙ omega (arith, syndrome_at code a k l, syndrome_at code b k l))

zero_at : (n p : ℕ) → get_or {A = ℕ} (replicate n 0) p 0 ≡ 0
zero_at n p =
    ⊎_elim (λ h. get_or-replicate n p 0 0 h)
    (λ past. let l : length {A = ℕ} (replicate n 0) ≤ p = rw (length-replicate {A = ℕ} n 0) past in get_or_past (replicate n 0) p 0 l)
    (cases_lt p n)

parity-zeros : (n : ℕ) (ps : List ℕ) → parity (replicate n 0) ps ≡ 0
parity-zeros n [] = refl
parity-zeros n (p ∷ ps) =
    omega (arith, sum_by-cons (λ i. get_or (replicate n 0) i 0) p ps, zero_at n p, parity-zeros n ps)

pub syndrome-zeros : (n : ℕ) (code : Code) → syndrome code (replicate n 0) ≡ replicate (checks code) 0
syndrome-zeros n code =
    ext_get_or 0 (syndrome code (replicate n 0)) (replicate (checks code) 0)
    (syndrome-length code (replicate n 0) ∙ sym (length-replicate {A = ℕ} (checks code) 0))
    (λ k h.
    let l : k < checks code = rw (syndrome-length code (replicate n 0)) at h in
    syndrome_at code (replicate n 0) k l ∙ parity-zeros n (check code k) ∙ sym (get_or-replicate (checks code) k 0 0 l))

-- a key that was made all zeros
pub zeros_tell : (n : ℕ) (key : List ℕ) → key ≡ replicate n 0 → (code : Code) → syndrome code key ≡ replicate (checks code) 0
zeros_tell n key zeros code = ap (syndrome code) zeros ∙ syndrome-zeros n code

-- the places below i are added, and the rest are as they were
pub record AddedBelow (a b : List ℕ) (i : ℕ) (key : List ℕ) : Type 0 where
  pub long : length key ≡ length a
  pub done : AllBelow (λ k. get_or key k 0 ≡ (get_or a k 0 + get_or b k 0) % 2) i
  pub left : (k : ℕ) → i ≤ k → get_or key k 0 ≡ get_or a k 0

pub added_more : (a b key : List ℕ) (i v : ℕ) → AddedBelow a b i key → i < length key
    → v ≡ (get_or key i 0 + get_or b i 0) % 2 → AddedBelow a b (i + 1) (set key i v)
added_more a b key i v h lt value =
    let here : v ≡ (get_or a i 0 + get_or b i 0) % 2 = rw (h.left i (omega arith)) at value in
    record {
      long = length-set key i v ∙ h.long;
      done = rw here (fill_by_more (λ k. (get_or a k 0 + get_or b k 0) % 2) key i 0 lt h.done);
      left = λ k l. let ne : k ≢ i = omega arith in rw get_or-set_other (h.left k (omega arith));
    }
