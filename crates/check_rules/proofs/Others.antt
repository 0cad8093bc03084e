-- The others of a place: as a list grows by one, and in a sum.
use Rattle.std.proofs.Common.{◌≡◌, ℕ, suc, ◌+◌, ◌<◌, ◌≤◌, List, [], ◌∷◌, ◌++◌, length, get_or, take, drop, sum_by, sym, refl, add-one, arith}
use Rattle.std.specs.List.{remove}
use Rattle.std.proofs.lemmas.List.{append-nil, append_assoc, take-append-le, drop-append-le, take_at, drop_all, length_push}
use Rattle.std.proofs.lemmas.List.Sums.{sum_by-append, sum_by-take-drop, sum_by-drop_more}

pub removed_below : (xs : List ℕ) (m i : ℕ) → i < length xs → remove (xs ++ m ∷ []) i ≡ remove xs i ++ m ∷ []
removed_below xs m i h =
    let a : i ≤ length xs = omega arith in
    let b : suc i ≤ length xs = omega arith in
    rw (take-append-le i xs (m ∷ []) a, drop-append-le (suc i) xs (m ∷ []) b) (sym (append_assoc (take i xs) (drop (suc i) xs) (m ∷ [])))

pub removed_last : (xs : List ℕ) (m : ℕ) → remove (xs ++ m ∷ []) (length xs) ≡ xs
removed_last xs m =
    let e = take_at xs (m ∷ []) (length xs) refl in
    let l : length (xs ++ m ∷ []) ≤ suc (length xs) = omega (arith, length_push xs m) in
    let d = drop_all (suc (length xs)) (xs ++ m ∷ []) l in
    rw (e, d) (append-nil xs)

pub sum_by_removed : {X : Type 0} (f : X → ℕ) (xs : List X) (i : ℕ) (d : X)
    → i < length xs
    → sum_by f (remove xs i) + f (get_or xs i d) ≡ sum_by f xs
sum_by_removed f xs i d h =
    let rest : sum_by f (drop i xs) ≡ f (get_or xs i d) + sum_by f (drop (suc i) xs) = rw (← add-one i) (sum_by-drop_more f xs i d h) in
    omega (arith, sum_by-append f (take i xs) (drop (suc i) xs), rest, sum_by-take-drop f xs i)
