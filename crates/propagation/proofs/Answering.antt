-- What a check sends back, place after place.
use Rattle.std.proofs.Common.{◌≡◌, ℕ, suc, ◌+◌, ◌-◌, ◌<◌, ◌≤◌, List, [], ◌∷◌, map, length, get_or, take, drop, ℤ, pos, negsuc, nat_abs, sym, refl, ap}
use Rattle.std.proofs.Common.{◌∙◌, arith}
use Rattle.std.specs.List.{remove, AllByRecursion}
use Rattle.std.proofs.lemmas.List.Sums.{get_or-le-sum_by}
use Rattle.std.proofs.ByRecursion.{sum_by_le}
use Rattle.std.proofs.lemmas.List.{map-append, take-map, drop-map, length-map, get_or-map}
use Rattle.codes.specs.Tells.{sign_bit}
use Rattle.check_rules.proofs.Others.{sum_by_removed}
use Rattle.propagation.specs.Check.{negatives}
use Rattle.propagation.specs.Within.{Fine, Within}
use Rattle.propagation.proofs.Elements.{read_all, read_map}

pub map_removed : {X Y : Type 0} (f : X → Y) (xs : List X) (i : ℕ) → map f (remove xs i) ≡ remove (map f xs) i
map_removed f xs i =
    map-append f (take i xs) (drop (suc i) xs) ∙ sym (rw (take-map f i xs, drop-map f (suc i) xs) refl)

-- one's own sign taken out of the count
pub others_count : (xs : List ℤ) (i count own bit : ℕ)
    → i < length xs
    → count ≡ negatives xs + bit
    → own ≡ sign_bit (get_or xs i (pos 0))
    → count - own ≡ negatives (remove xs i) + bit
others_count xs i count own bit h e f = omega (arith, e, f, sum_by_removed sign_bit xs i (pos 0) h)

pub negatives_few : (xs : List ℤ) → negatives xs ≤ length xs
negatives_few xs = omega (arith, sum_by_le sign_bit 1 xs (bits xs))
  where
    bits : (xs : List ℤ) → AllByRecursion (λ x. sign_bit x ≤ 1) xs
    bits [] = tt
    bits (pos n ∷ xs) = (omega arith, bits xs)
    bits (negsuc n ∷ xs) = (omega arith, bits xs)

pub own_counted : (xs : List ℤ) (i : ℕ) → i < length xs → sign_bit (get_or xs i (pos 0)) ≤ negatives xs
own_counted xs i h = get_or-le-sum_by sign_bit xs i (pos 0) h

-- the belief x that is read at place i is still the one that was heard
pub record Own {X : Type 0} (exact : X → Type 0) (eighths : X → ℤ) (k : ℕ) (given : List X) (i : ℕ) (x : X) : Type 0 where
  pub fine : Fine exact eighths k x
  pub near : i < length (map eighths given)
  pub value : get_or (map eighths given) i (pos 0) ≡ eighths x
  pub sized : i < length (map nat_abs (map eighths given))
  pub size : get_or (map nat_abs (map eighths given)) i 0 ≡ nat_abs (eighths x)

pub own : {X : Type 0} (exact : X → Type 0) (eighths : X → ℤ) (k : ℕ) (given : List X) (i : ℕ) (x : X)
    → i < length given
    → Within exact eighths k given
    → x ≡ get_or given i x
    → Own exact eighths k given i x
own exact eighths k given i x h low e =
    let near : i < length (map eighths given) = rw (length-map given eighths) h in
    let value : get_or (map eighths given) i (pos 0) ≡ eighths x = read_map eighths given i x h e in
    record {
      fine = read_all (Fine exact eighths k) given i x h e low;
      near = near;
      value = value;
      sized = rw (length-map (map eighths given) nat_abs) near;
      size = get_or-map nat_abs (map eighths given) i (pos 0) 0 near ∙ ap nat_abs value;
    }
