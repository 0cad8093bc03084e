-- Counting how often a position is named, entry after entry.
use Rattle.std.proofs.Common.{◌≡◌, ℕ, ◌+◌, ◌<◌, ◌≤◌, eqb, ◌≢◌, List, length, get_or, take, set, sym, refl, ⊎_elim, arith}
use Rattle.std.proofs.lemmas.List.{get_or-set_same, get_or-set_other, length-take}
use Rattle.std.proofs.lemmas.List.Sums.{count_by_more_yes, count_by_more_no, count_by-le-length}
use Rattle.std.proofs.lemmas.Bool.{cases_eq, eq-eqb, ne_eqb}
use Rattle.codes.specs.Places.{AllBelow}
use Rattle.codes.specs.Admission.{degree}

pub degree-bound : (ps : List ℕ) (i k : ℕ) → length ps ≤ 8192 → degree (take i ps) k ≤ 8192
degree-bound ps i k h =
    omega (arith, count_by-le-length (λ p. eqb p k) (take i ps), length-take i ps)

pub degrees_more : (ps ds : List ℕ) (i n : ℕ)
    → length ds ≡ n
    → i < length ps
    → get_or ps i 0 < n
    → AllBelow (λ k. get_or ds k 0 ≡ degree (take i ps) k) n
    → AllBelow (λ k. get_or (set ds (get_or ps i 0) (get_or ds (get_or ps i 0) 0 + 1)) k 0 ≡ degree (take (i + 1) ps) k) n
degrees_more ps ds i n long h l inv k lt =
    ⊎_elim
    (λ e.
    let here : get_or ps i 0 < length ds = omega arith in
    let same : get_or ds (get_or ps i 0) 0 ≡ degree (take i ps) (get_or ps i 0) = inv (get_or ps i 0) l in
    let more = count_by_more_yes (λ p. eqb p (get_or ps i 0)) ps i 0 h (eq-eqb (get_or ps i 0) (get_or ps i 0) refl) in
    rw e (rw get_or-set_same (omega (arith, same, more))))
    (λ ne.
    let other : k ≢ get_or ps i 0 = ne in
    let more =
    count_by_more_no (λ p. eqb p k) ps i 0 h (ne_eqb (get_or ps i 0) k (λ e. ne (sym e))) in
    rw get_or-set_other (omega (arith, inv k lt, more)))
    (cases_eq k (get_or ps i 0))

-- a position past the end of the counts adds to none of them
pub degrees_past : (ps ds : List ℕ) (i n : ℕ)
    → i < length ps
    → n ≤ get_or ps i 0
    → AllBelow (λ k. get_or ds k 0 ≡ degree (take i ps) k) n
    → AllBelow (λ k. get_or ds k 0 ≡ degree (take (i + 1) ps) k) n
degrees_past ps ds i n h past inv k lt =
    let other : get_or ps i 0 ≢ k = omega arith in
    omega (arith, inv k lt, count_by_more_no (λ p. eqb p k) ps i 0 h (ne_eqb (get_or ps i 0) k other))
