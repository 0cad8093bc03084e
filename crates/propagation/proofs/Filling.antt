-- A loop that writes each place anew, whatever it held.
use Rattle.std.proofs.Common.{◌≡◌, ℕ, zero, suc, ◌+◌, ◌<◌, ◌≤◌, ◌≢◌, List, [], ◌∷◌, map, length, get_or, set, replicate, sym, refl, ap, ◌∙◌, subst}
use Rattle.std.proofs.Common.{⊎_elim, arith}
use Rattle.std.specs.List.{range_with_len, AllByRecursion}
use Rattle.std.proofs.ByRecursion.{all_from_every}
use Rattle.std.proofs.lemmas.List.{get_or-set_same, get_or-set_other}
use Rattle.std.proofs.lemmas.Bool.{cases_eq}

-- the first i places hold what they should, the others what they held
pub record Filled {X Y : Type 0} (P : X → Type 0) (value : X → Y) (f : ℕ → Y) (was now : List X) (i : ℕ) : Type 0 where
  pub fine : (j : ℕ) (d : X) → j < i → P (get_or now j d)
  pub holds : (j : ℕ) (d : X) → j < i → value (get_or now j d) ≡ f j
  pub left : (j : ℕ) (d : X) → i ≤ j → get_or now j d ≡ get_or was j d

module _ {X Y : Type 0} (P : X → Type 0) (value : X → Y) (f : ℕ → Y) (was : List X) where
  pub filled_none : Filled P value f was was 0
  filled_none =
      record { fine = λ j d h. absurd (omega arith); holds = λ j d h. absurd (omega arith); left = λ j d h. refl }

  pub filled_more : (now : List X) (i : ℕ) (x : X)
      → i < length now
      → Filled P value f was now i
      → P x
      → value x ≡ f i
      → Filled P value f was (set now i x) (i + 1)
  filled_more now i x h inv p e =
      record {
        fine = λ j d l.
            ⊎_elim (λ same. subst P (sym (here j d same)) p)
            (λ other. subst P (sym (there j d other)) (inv.fine j d (omega arith)))
            (cases_eq j i);
        holds = λ j d l.
            ⊎_elim (λ same. ap value (here j d same) ∙ e ∙ ap f (sym same))
            (λ other. ap value (there j d other) ∙ inv.holds j d (omega arith))
            (cases_eq j i);
        left = λ j d l. there j d (omega arith) ∙ inv.left j d (omega arith);
      }
    where
      here : (j : ℕ) (d : X) → j ≡ i → get_or (set now i x) j d ≡ x
      here j d same = ap (λ n. get_or (set now i x) n d) same ∙ get_or-set_same now i x d h

      there : (j : ℕ) (d : X) → j ≢ i → get_or (set now i x) j d ≡ get_or now j d
      there j d other = get_or-set_other now i j x d other

  pub filled_fine : (now : List X) → Filled P value f was now (length now) → AllByRecursion P now
  filled_fine now inv = all_from_every P now (λ j d low h. inv.fine j d h)

pub filled_from : {X Y : Type 0} (value : X → Y) (f : ℕ → Y) (a : ℕ) (xs : List X)
    → ((j : ℕ) (d : X) → j < length xs → value (get_or xs j d) ≡ f (a + j))
    → map value xs ≡ map f (range_with_len a (length xs))
filled_from value f a [] h = refl
filled_from value f a (x ∷ xs) h =
    let here : value x ≡ f a = h 0 x (omega arith) ∙ ap f (omega arith) in
    let rest = filled_from value f (a + 1) xs (λ j d l. h (suc j) d (omega arith) ∙ ap f (omega arith)) in
    cc

pub filled_all : {X Y : Type 0} (P : X → Type 0) (value : X → Y) (f : ℕ → Y) (was now : List X)
    → Filled P value f was now (length now)
    → map value now ≡ map f (range_with_len 0 (length now))
filled_all P value f was now inv = filled_from value f 0 now (λ j d h. inv.holds j d h ∙ ap f (omega arith))

pub map_same : {Y : Type 0} (y : Y) (a n : ℕ) → map (λ j. y) (range_with_len a n) ≡ replicate n y
map_same y a zero = refl
map_same y a (suc n) = ap (λ ys. y ∷ ys) (map_same y (a + 1) n)
