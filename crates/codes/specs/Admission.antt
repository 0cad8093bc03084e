-- Which runs are a matrix, and which refusal is due for those that are not.
use Rattle.std.specs.Prelude.{◌≡◌, ℕ, ◌+◌, ◌-◌, ◌<◌, ◌≤◌, List, length, count_by, nat_eq, slice_index}
use Rattle.codes.specs.Places.{AllBelow, FirstFault}
use Rattle.codes.specs.Limits.{Sizes}
use Rattle.codes.specs.Code.{start, end}
use Rattle.codes.specs.declared.refusal.MatrixRefusal.{MatrixRefusal}
use Rattle.codes.specs.declared.refusal.MatrixRefusal.TheVariants.{WrongSize, WrongCheck, WrongEntry, WrongPosition}

-- n positions and m checks are asked for, in runs of these lengths
abbrev pub SoundSizes : ℕ → ℕ → List ℕ → List ℕ → Type 0
SoundSizes n m positions ends = Sizes n m × (length positions ≤ 8192) × (length ends ≡ m)

-- check k has 1 to 32 entries, and the last check ends with the run
abbrev pub Filled : List ℕ → ℕ → Type 0
Filled ends k = start ends k < end ends k

abbrev pub Small : List ℕ → ℕ → Type 0
Small ends k = end ends k ≤ start ends k + 32

abbrev pub Closed : List ℕ → List ℕ → ℕ → Type 0
Closed positions ends k = k + 1 ≡ length ends → end ends k ≡ length positions

abbrev pub SoundCheck : List ℕ → List ℕ → ℕ → Type 0
SoundCheck positions ends k = Filled ends k × Small ends k × Closed positions ends k

-- entry j names a position, and a higher one than the entry before it in its check
abbrev pub Within : ℕ → List ℕ → ℕ → Type 0
Within n positions j = slice_index positions j < n

-- entry j lies in check k, and is not its first
abbrev pub Follows : List ℕ → ℕ → ℕ → Type 0
Follows ends k j = (k < length ends) × (start ends k < j) × (j < end ends k)

abbrev pub Rises : List ℕ → List ℕ → ℕ → Type 0
Rises positions ends j = (k : ℕ) → Follows ends k j → slice_index positions (j - 1) < slice_index positions j

abbrev pub SoundEntry : ℕ → List ℕ → List ℕ → ℕ → Type 0
SoundEntry n positions ends j = Within n positions j × Rises positions ends j

-- how many checks hold position i: a check names a position once at most, so its entries are counted
abbrev pub degree : List ℕ → ℕ → ℕ
degree positions i = count_by (λ p. nat_eq p i) positions

-- position i lies in 1 to 16 checks
abbrev pub SoundPosition : List ℕ → ℕ → Type 0
SoundPosition positions i = (1 ≤ degree positions i) × (degree positions i ≤ 16)

pub record Admissible (n m : ℕ) (positions ends : List ℕ) : Type 0 where
  pub sizes : SoundSizes n m positions ends
  pub checks : AllBelow (SoundCheck positions ends) m
  pub entries : AllBelow (SoundEntry n positions ends) (length positions)
  pub places : AllBelow (SoundPosition positions) n

-- the refusal that is due: the smaller number first, at the first place at fault
abbrev pub Refused : ℕ → ℕ → List ℕ → List ℕ → MatrixRefusal → Type 0
Refused n m positions ends WrongSize = SoundSizes n m positions ends → ⊥
Refused n m positions ends (WrongCheck k) =
    SoundSizes n m positions ends × FirstFault (SoundCheck positions ends) m k
Refused n m positions ends (WrongEntry j) =
    SoundSizes n m positions ends × AllBelow (SoundCheck positions ends) m
    × FirstFault (SoundEntry n positions ends) (length positions) j
Refused n m positions ends (WrongPosition i) =
    SoundSizes n m positions ends × AllBelow (SoundCheck positions ends) m
    × AllBelow (SoundEntry n positions ends) (length positions) × FirstFault (SoundPosition positions) n i

-- no two refusals are due at once, and none for runs that are a matrix
pub record OneRefusal (n m : ℕ) (positions ends : List ℕ) : Type 0 where
  pub single : (e f : MatrixRefusal) → Refused n m positions ends e → Refused n m positions ends f → e ≡ f
  pub none : Admissible n m positions ends → (e : MatrixRefusal) → Refused n m positions ends e → ⊥
