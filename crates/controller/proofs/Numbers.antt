-- Runs of numbers as bytes: read one by one, and what is replied where one cannot be a matrix's.
use Rattle.std.proofs.Common.{◌≡◌, ℕ, ◌/◌, ◌*◌, ◌<◌, ◌≤◌, ◌⊎◌, List, length, get_or, refl, inr, ⊎_elim, arith}
use Rattle.std.proofs.lemmas.List.FromFn.{fill_by_all, length-map-range_with_len}
use Rattle.refusals.specs.Told.{told}
use Rattle.codes.specs.Admission.{SoundSizes}
use Rattle.codes.specs.declared.refusal.CallRefusal.TheVariants.{Matrix}
use Rattle.codes.specs.declared.refusal.MatrixRefusal.TheVariants.{WrongSize}
use Rattle.controller.specs.Runs.{number16, numbers16, Whole}
use Rattle.controller.specs.Replies.{reply, AdmitReplies, SyndromeReplies}

pub all_read : (bytes out : List ℕ) → length out ≡ length bytes / 2
    → ((k : ℕ) → k < length bytes / 2 → get_or out k 0 ≡ number16 bytes k)
    → out ≡ numbers16 bytes
unfolding numbers16
all_read bytes out long at = fill_by_all (number16 bytes) out (length bytes / 2) 0 long at

length_numbers : (bytes : List ℕ) → length (numbers16 bytes) ≡ length bytes / 2
unfolding numbers16
length_numbers bytes = length-map-range_with_len (number16 bytes) 0 (length bytes / 2)

-- the bytes are no run of so many numbers
abbrev pub NoRun : ℕ → List ℕ → Type 0
NoRun most bytes = ¬ (Whole bytes × (length bytes ≤ 2 * most))

no_sizes : (n m : ℕ) (ps es : List ℕ) → NoRun 8192 ps ⊎ NoRun 1024 es → Whole ps × Whole es
    → ¬ (SoundSizes n m (numbers16 ps) (numbers16 es))
no_sizes n m ps es none whole sizes =
    ⊎_elim (λ no. no (whole.0, omega (arith, length_numbers ps))) (λ no. no (whole.1, omega (arith, length_numbers es))) none

pub admit_refused : (n m : ℕ) (ps es : List ℕ) → NoRun 8192 ps ⊎ NoRun 1024 es → AdmitReplies n m ps es (reply (told 1 0))
admit_refused n m ps es none = (λ odd. refl, λ whole. inr (WrongSize, no_sizes n m ps es none whole, refl))

pub syndrome_refused : (n m : ℕ) (ps es key out : List ℕ) → NoRun 8192 ps ⊎ NoRun 1024 es
    → SyndromeReplies n m ps es key out out (reply (told 1 0))
syndrome_refused n m ps es key out none =
    (λ odd. (refl, refl), λ whole. inr (Matrix WrongSize, (no_sizes n m ps es none whole, refl), refl))
