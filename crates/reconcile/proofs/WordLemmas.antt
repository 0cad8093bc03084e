-- What a word lists, from what its parts were read as.
use Rattle.std.proofs.Common.{◌≡◌, ◌≢◌, ℕ, zero, suc, ◌^◌, ◌/◌, ◌<◌, List, [], ◌∷◌, length, map, take, get_or}
use Rattle.std.proofs.Common.{Option, Some, None, Result, Ok, Err, Vec, Global, true, codes, arith, subst, sym, refl, ap, ◌∙◌}
use Rattle.std.specs.Prelude.{IfOk, IfErr, IsOkAnd, IsSomeAnd}
use Rattle.std.specs.Char.{is_ascii_digit, is_ascii_hexdigit}
use Rattle.std.specs.Iterator.{DrainsIf, Yields}
use Rattle.std.specs.Iterator.Runs.{YieldsRun, SomeRun, WholeRun, AnyItem}
use Rattle.std.specs.List.{AllPass, AllZip, slice_get}
use Rattle.std.specs.Option.{IsSomeRelated, option_map}
use Rattle.std.specs.Str.Parse.{AllDigits, IsNumeral, digits_value, without_leading_plus}
use Rattle.std.proofs.lemmas.Iterator.{YieldsList, items_from_drains}
use Rattle.std.proofs.lemmas.Iterator.Consumers.{YieldsList-so_far}
use Rattle.std.proofs.lemmas.List.{length-map, length-take, get_or-take}
use Rattle.std.proofs.lemmas.List.Elements.{All-head, All-weaker}
use Rattle.std.proofs.lemmas.Option.{slice_get-get_or, slice_get-map, get_or_from_slice_get, slice_get_within}
use Rattle.std.proofs.lemmas.Bool.Decides.{nat_tests}
use Rattle.std.proofs.lemmas.Str.Parse.{digit_from_value, without_leading_plus_none}
use Rattle.hex.specs.Hex.{decode_of, decode_sized, is_hex_digit}
use Rattle.hex.proofs.HexLemmas.{IsOk-decode_sized}
use Rattle.reconcile.specs.declared.error.LineError.{LineError}
use Rattle.reconcile.specs.declared.error.LineError.TheVariants.{NotUnderstood}
use Rattle.reconcile.specs.Words.{IsJustRead, IsNumber, OrDash, ReadAs}

-- place by place
zipped : {B T : Type 0} (R : B → T → Type 0) (xs : List B) (ys : List T) → length ys ≡ length xs
    → ((k : ℕ) (d : B) (e : T) → k < length xs → R (get_or xs k d) (get_or ys k e)) → AllZip R xs ys
zipped R [] [] len each = tt
zipped R [] (y ∷ ys) len each = absurd (omega arith)
zipped R (x ∷ xs) [] len each = absurd (omega arith)
zipped R (x ∷ xs) (y ∷ ys) len each = (each 0 x y (omega arith), zipped R xs ys (omega arith) (λ k d e lt. each (suc k) d e (omega arith)))

unzipped : {B T : Type 0} (R : B → T → Type 0) (xs : List B) (ys : List T) (k : ℕ) (d : B) → k < length xs → AllZip R xs ys → (y : T) × R (get_or xs k d) y
unzipped R [] ys k d lt h = absurd (omega arith)
unzipped R (x ∷ xs) [] k d lt h = absurd h
unzipped R (x ∷ xs) (y ∷ ys) zero d lt h = (y, h.0)
unzipped R (x ∷ xs) (y ∷ ys) (suc k) d lt h = unzipped R xs ys k d (omega arith) h.1

taken : {A : Type 0} (P : A → Type 0) (o : Option A) → IsSomeAnd o P → (x : A) × P x × (o ≡ Some x)
taken P None h = absurd h
taken P (Some x) h = (x, h, refl)

from_take : {B : Type 0} (n : ℕ) (xs : List B) (k : ℕ) (x : B) → slice_get (take n xs) k ≡ Some x → slice_get xs k ≡ Some x
from_take n xs k x h =
    let within : k < length (take n xs) = slice_get_within (take n xs) k x h in
    let lt : k < n = omega (arith, length-take n xs) in
    let le : k < length xs = omega (arith, length-take n xs) in
    slice_get-get_or xs k x le ∙ ap Some (sym (get_or-take n xs k x lt) ∙ get_or_from_slice_get (take n xs) k x x h)

related : {A B T : Type 0} (v : A → B) (Reads : A → T → Type 0) (R : B → T → Type 0) → ((x : A) (y : T) → Reads x y → R (v x) y)
    → (o : Option A) (y : T) (b : B) → IsSomeRelated Reads o y → Some b ≡ option_map v o → R b y
related v Reads R means None y b h e = absurd h
related v Reads R means (Some x) y b h e = let same : b ≡ v x = cc in subst (λ b. R b y) (sym same) (means x y h)

module _ {S A B : Type 0} {steps : S → Option A → S → Type 0} {s : S} (v : A → B) (all : List B) (yields : YieldsList steps v s all) where
  -- the parts were all read
  held : {T : Type 0} (Reads : A → T → Type 0) (R : B → T → Type 0) → ((x : A) (y : T) → Reads x y → R (v x) y)
      → (xs : List T) → WholeRun steps s (ReadAs Reads xs) → AllZip R all xs
  unfolding YieldsRun
  held Reads R means xs whole =
      let p = whole.0 in
      let drains = p.gave.0 in
      let ends = subst (λ s. DrainsIf steps (Unit {0}) s p.items) whole.1 (drains.0, drains.1, λ _. drains.2 whole.2) in
      let same = items_from_drains p.items ends yields in
      let count : p.len ≡ length all = p.long ∙ sym (length-map p.items v) ∙ ap length same in
      let at : (k : ℕ) → slice_get all k ≡ option_map v (p.at k) = λ k. rw (← same) (slice_get-map v p.items k ∙ ap (option_map v) (sym (p.gave.1 k))) in
      zipped R all xs (whole.3.0 ∙ count)
      (λ k d e lt. let there = sym (slice_get-get_or all k d lt) ∙ at k in
      related v Reads R means (p.at k) (get_or xs k e) (get_or all k d) (whole.3.1 k e (omega arith)) there)

  -- a part was not read
  failed : (Fails : A → Type 0) → SomeRun steps s (λ p. AnyItem p Fails) → (k : ℕ) × (x : A) × Fails x × (slice_get all k ≡ Some (v x))
  unfolding YieldsRun
  failed Fails some =
      let p = some.0 in
      let k = some.2.0 in
      let drains = p.gave.0 in
      let front = YieldsList-so_far yields p.items drains.0 (subst (λ s. Yields steps s p.items drains.0) some.1 drains.1) in
      let x = taken Fails (p.at k) some.2.2 in
      let at : slice_get (map v p.items) k ≡ Some (v x.0) = slice_get-map v p.items k ∙ ap (option_map v) (sym (p.gave.1 k) ∙ x.2) in
      (k, x.0, x.1, from_take (length p.items) all k (v x.0) (rw (← front) at))

  -- what the clauses of `list` say together
  pub just_read : {T : Type 0} (word : List ℕ) (Reads : A → T → Type 0) (Fails : A → LineError → Type 0) (R : B → T → Type 0)
      → ((x : A) (y : T) → Reads x y → R (v x) y) → ((x : A) (y : T) → Fails x NotUnderstood → R (v x) y → ⊥)
      → (r : Result (Vec T Global) LineError) → IfOk r (λ _. 0 < length word) → (word ≡ codes "-" → IsOkAnd r (λ v. v.items ≡ []))
      → (word ≢ codes "-" → IfOk r (λ v. WholeRun steps s (ReadAs Reads v.items)))
      → IfErr r (λ e. e ≡ NotUnderstood → 0 < length word → SomeRun steps s (λ p. AnyItem p (λ x. Fails x e)))
      → IsJustRead (OrDash word (AllZip R all)) r
  just_read word Reads Fails R means none (Ok xs) some dash other refused =
      record { some = some; dash = dash; other = λ ne. held Reads R means xs.items (other ne) }
  just_read word Reads Fails R means none (Err e) some dash other refused = λ is xs h.
      let ne : word ≢ codes "-" = λ same. dash same in
      let f = failed (λ x. Fails x e) (refused is h.some) in
      let y = unzipped R all xs f.0 (v f.1) (slice_get_within all f.0 (v f.1) f.3) (h.other ne) in
      none f.1 y.0 (subst (Fails f.1) is f.2) (subst (λ b. R b y.0) (get_or_from_slice_get all f.0 (v f.1) (v f.1) f.3) y.1)

-- ---- decimal digits alone

no_plus : (word : List ℕ) → AllPass is_ascii_digit word → get_or word 0 0 ≢ 43
no_plus [] h e = absurd (omega arith)
no_plus (c ∷ cs) h e = let P : ℕ → Type 0 = λ c. is_ascii_digit c ≡ true in absurd (cc (subst P e (All-head P c cs h)))

all_digits : (part : List ℕ) → AllDigits 10 part → (k : ℕ) (d : ℕ) → k < length part → is_ascii_digit (get_or part k d) ≡ true
all_digits [] h k d lt = absurd (omega arith)
all_digits (c ∷ cs) h zero d lt = let in_range = digit_from_value c h.0 in grind (arith, nat_tests)
all_digits (c ∷ cs) h (suc k) d lt = all_digits cs h.1 k d (omega arith)

-- digits alone have no sign that is passed over
pub number_read : (part : List ℕ) (x : ℕ) → AllPass is_ascii_digit part
    → IsNumeral 10 (without_leading_plus part) × (digits_value 10 (without_leading_plus part) < 2 ^ 16)
    → x ≡ digits_value 10 (without_leading_plus part) → IsNumber part x
number_read part x h (numeral, fits) value =
    let e = without_leading_plus_none part (no_plus part h) in
    record { numeral = rw e at numeral; value = rw e at value; fits = rw (← value) at fits }

pub number_refused : (part : List ℕ) (x : ℕ)
    → (AllPass is_ascii_digit part → ¬ (IsNumeral 10 (without_leading_plus part) × (digits_value 10 (without_leading_plus part) < 2 ^ 16)))
    → IsNumber part x → ⊥
number_refused part x not_read h =
    let digits : AllPass is_ascii_digit part = all_digits part h.numeral.1 in
    let e = sym (without_leading_plus_none part (no_plus part digits)) in
    not_read digits (rw e at h.numeral, subst (λ ds. digits_value 10 ds < 2 ^ 16) e (subst (λ n. n < 2 ^ 16) h.value h.fits))

-- ---- hexadecimal

hex_letter : (c : ℕ) → is_hex_digit c ≡ true → is_ascii_hexdigit c ≡ true
hex_letter c h = grind (arith, nat_tests)

-- what is decoded has digits alone
pub decoded_digits : (word xs : List ℕ) → decode_of word ≡ Ok xs → AllPass is_ascii_hexdigit word
decoded_digits word xs h =
    let sized : decode_sized word (length word / 2) ≡ Ok xs = grind (arith) in
    let d = (IsOk-decode_sized word (length word / 2)).0 (rw sized refl) in
    All-weaker (λ c. is_hex_digit c ≡ true) (λ c. is_ascii_hexdigit c ≡ true) hex_letter word d.1
