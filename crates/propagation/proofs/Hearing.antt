-- What a check takes in, belief after belief.
use Rattle.std.proofs.Common.{◌≡◌, ℕ, ◌+◌, List, [], ◌∷◌, ◌++◌, map, length, ℤ, nat_abs, ap, ◌∙◌, arith}
use Rattle.std.specs.List.{range_with_len}
use Rattle.std.proofs.lemmas.List.FromFn.{map-range_with_len_more, length-map-range_with_len}
use Rattle.std.proofs.lemmas.List.{map_push, length-map}
use Rattle.std.proofs.lemmas.List.Sums.{sum_by_push}
use Rattle.codes.specs.Tells.{sign_bit}
use Rattle.propagation.specs.Check.{negatives}

-- the beliefs of the first i positions
abbrev pub first : (ℕ → ℤ) → ℕ → List ℤ
first f i = map f (range_with_len 0 i)

module _ (f : ℕ → ℤ) (i : ℕ) where
  first_more : first f (i + 1) ≡ first f i ++ f i ∷ []
  first_more = map-range_with_len_more f 0 i i (omega arith)

  pub sizes_more : map nat_abs (first f (i + 1)) ≡ map nat_abs (first f i) ++ nat_abs (f i) ∷ []
  sizes_more = ap (map nat_abs) first_more ∙ map_push nat_abs (first f i) (f i)

  pub negatives_more : negatives (first f (i + 1)) ≡ negatives (first f i) + sign_bit (f i)
  negatives_more = ap negatives first_more ∙ sum_by_push sign_bit (first f i) (f i)

  pub sizes_length : length (map nat_abs (first f i)) ≡ i
  sizes_length = length-map (first f i) nat_abs ∙ length-map-range_with_len f 0 i
