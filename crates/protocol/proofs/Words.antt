-- Adding a word to a key: where the word is 0 nothing changes, and bits that are gathered are added as the words are.
use Rattle.std.proofs.Common.{◌≡◌, ℕ, zero, suc, ◌+◌, ◌%◌, ◌<◌, Bool, true, List, [], ◌∷◌, ◌++◌, map, length, get_or, replicate, sym, refl, ap, ◌∙◌, ⊎_elim, arith}
use Rattle.std.proofs.lemmas.Grind.{common_steps}
use Rattle.std.proofs.lemmas.List.{length-append, ext_get_or, get_or_append_left, append-nil, length_push, get_or_push, get_or-replicate}
use Rattle.std.proofs.lemmas.List.FromFn.{get_or-map-range_with_len, length-map-range_with_len}
use Rattle.std.proofs.lemmas.Bool.{cases_lt}
use Rattle.codes.specs.Syndrome.{IsKey, added}
use Rattle.frames.specs.Writing.{gathered}

pub map_cong : {A B : Type 0} (f g : A → B) (xs : List A) → ((x : A) → f x ≡ g x) → map f xs ≡ map g xs
map_cong f g [] h = refl
map_cong f g (x ∷ xs) h = let a = h x in let b = map_cong f g xs h in cc

pub length-added : (a b : List ℕ) → length (added a b) ≡ length a
length-added a b = length-map-range_with_len (λ i. (get_or a i 0 + get_or b i 0) % 2) 0 (length a)

pub added-within : (a b : List ℕ) (i : ℕ) → i < length a → get_or (added a b) i 0 ≡ (get_or a i 0 + get_or b i 0) % 2
added-within a b i h = get_or-map-range_with_len (λ k. (get_or a k 0 + get_or b k 0) % 2) 0 (length a) i i 0 h (omega arith)

-- a bit where the word is 0
pub same_bit : (n : ℕ) (key word : List ℕ) → IsKey n key → (i : ℕ) → i < n → get_or word i 0 ≡ 0 → get_or (added key word) i 0 ≡ get_or key i 0
same_bit n key word k i h zero-there = grind (arith, common_steps, added-within)

pub added-bit : (a b : List ℕ) (i : ℕ) → i < length a → get_or (added a b) i 0 < 2
added-bit a b i h = omega (arith, added-within a b i h)

-- adding zeros
pub added-zeros : (n : ℕ) (s : List ℕ) → length s ≡ n → ((i : ℕ) → i < n → get_or s i 0 < 2) → added s (replicate n 0) ≡ s
added-zeros n s long bits =
    ext_get_or 0 (added s (replicate n 0)) s (length-added s (replicate n 0))
    (λ i h.
    let l : i < length s = omega (arith, length-added s (replicate n 0)) in
    let m : i < n = omega arith in
    added-within s (replicate n 0) i l ∙ omega (arith, bits i m, get_or-replicate {A = ℕ} n i 0 0 m))

-- what is gathered has a place for each position that passes
pub gathered_cong : (test : ℕ → Bool) (f g : ℕ → ℕ) (n : ℕ) → ((i : ℕ) → i < n → test i ≡ true → f i ≡ g i)
    → gathered test f n ≡ gathered test g n
unfolding gathered
gathered_cong test f g zero h = refl
gathered_cong test f g (suc n) h = grind (arith, common_steps, gathered_cong test f g n (λ i l. h i (omega arith)))

pub gathered-length : (test : ℕ → Bool) (f g : ℕ → ℕ) (n : ℕ) → length (gathered test f n) ≡ length (gathered test g n)
unfolding gathered
gathered-length test f g zero = refl
gathered-length test f g (suc n) = grind (arith, common_steps, gathered-length test f g n, length-append)

added_push : (xs ys : List ℕ) (a b : ℕ) → length xs ≡ length ys
    → added (xs ++ a ∷ []) (ys ++ b ∷ []) ≡ added xs ys ++ ((a + b) % 2) ∷ []
added_push xs ys a b e =
    ext_get_or 0 (added (xs ++ a ∷ []) (ys ++ b ∷ [])) (added xs ys ++ ((a + b) % 2) ∷ [])
    (length-added (xs ++ a ∷ []) (ys ++ b ∷ []) ∙ length_push xs a ∙ sym (length_push (added xs ys) ((a + b) % 2) ∙ ap (λ n. n + 1) (length-added xs ys)))
    (λ i h.
    let long : i < length xs + 1 = omega (arith, length-added (xs ++ a ∷ []) (ys ++ b ∷ []), length_push xs a) in
    let l : i < length (xs ++ a ∷ []) = omega (arith, length_push xs a) in
    added-within (xs ++ a ∷ []) (ys ++ b ∷ []) i l
    ∙ ⊎_elim
    (λ lt.
    let m : i < length ys = omega arith in
    let k : i < length (added xs ys) = omega (arith, length-added xs ys) in
    omega (
      arith,
      get_or_append_left xs (a ∷ []) 0 i lt,
      get_or_append_left ys (b ∷ []) 0 i m,
      get_or_append_left (added xs ys) (((a + b) % 2) ∷ []) 0 i k,
      added-within xs ys i lt,
    ))
    (λ ge.
    let p : length xs ≡ i = omega arith in
    let q : length ys ≡ i = omega arith in
    let r : length (added xs ys) ≡ i = omega (arith, length-added xs ys) in
    omega (arith, get_or_push xs a 0 i p, get_or_push ys b 0 i q, get_or_push (added xs ys) ((a + b) % 2) 0 i r))
    (cases_lt i (length xs)))

pub gathered-added : (test : ℕ → Bool) (f w g : ℕ → ℕ) (n : ℕ) → ((i : ℕ) → i < n → g i ≡ (f i + w i) % 2)
    → gathered test g n ≡ added (gathered test f n) (gathered test w n)
unfolding gathered
gathered-added test f w g zero h = refl
gathered-added test f w g (suc n) h =
    grind (arith, common_steps, gathered-added test f w g n (λ i l. h i (omega arith)), added_push, gathered-length, append-nil)
