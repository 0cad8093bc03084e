-- Working words that hold counts, one after another.
use Rattle.std.proofs.Common.{◌≡◌, ℕ, ◌+◌, ◌<◌, eqb, ◌≢◌, List, length, get_or, take, set, ℤ, pos, sym, refl, arith, w32, to_z, of_z}
use Rattle.std.proofs.lemmas.Int.{to_z_pos}
use Rattle.std.proofs.lemmas.List.Sums.{count_by_more_yes, count_by_more_no}
use Rattle.std.proofs.lemmas.Bool.{cases_eq, eq-eqb, ne_eqb}
use Rattle.std.proofs.lemmas.Grind.{common_steps}
use Rattle.codes.specs.Admission.{degree}
use Rattle.flipping.specs.Words.{Holds}

-- a count survives the way through a word's bits
pub word_is : (z : ℤ) (c : ℕ) → z ≡ pos c → c < 2147483648 → to_z w32 (of_z w32 z) ≡ pos c
word_is z c e h = rw e (to_z_pos w32 c h)

pub holds_more : (words : List ℤ) (i n c : ℕ) (z : ℤ) (f g : ℕ → ℕ)
    → length words ≡ n
    → i < n
    → z ≡ pos c
    → c < 2147483648
    → c ≡ g i
    → ((k : ℕ) → k ≢ i → f k ≡ g k)
    → Holds words f n
    → Holds (set words i (to_z w32 (of_z w32 z))) g n
holds_more words i n c z f g long h e fit here rest inv k l =
    grind (arith, common_steps, inv k l, rest k, word_is z c e fit, cases_eq k i)

-- one entry more
pub degree_here : (ps : List ℕ) (j : ℕ) → j < length ps → degree (take (j + 1) ps) (get_or ps j 0) ≡ degree (take j ps) (get_or ps j 0) + 1
degree_here ps j h = count_by_more_yes (λ p. eqb p (get_or ps j 0)) ps j 0 h (eq-eqb (get_or ps j 0) (get_or ps j 0) refl)

pub degree-other : (ps : List ℕ) (j k : ℕ) → j < length ps → k ≢ get_or ps j 0 → degree (take (j + 1) ps) k ≡ degree (take j ps) k
degree-other ps j k h ne = count_by_more_no (λ p. eqb p k) ps j 0 h (ne_eqb (get_or ps j 0) k (λ e. ne (sym e)))
