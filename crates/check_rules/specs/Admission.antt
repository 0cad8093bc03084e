-- Which tables are admitted, and which refusal is due for those that are not.
use Rattle.std.specs.Prelude.{◌≡◌, ℕ, ◌-◌, ◌<◌, ◌≤◌, List, length, slice_index}
use Rattle.codes.specs.Places.{AllBelow, FirstFault}
use Rattle.check_rules.specs.declared.refusal.TableRefusal.{TableRefusal}
use Rattle.check_rules.specs.declared.refusal.TableRefusal.TheVariants.{WrongLength, WrongF2a, WrongA2f, WrongRaw}

abbrev pub TableLength : List ℕ → Type 0
TableLength table = (1 ≤ length table) × (length table ≤ 4095)

abbrev pub SoundLengths : List ℕ → List ℕ → List ℕ → Type 0
SoundLengths f2a a2f raw = TableLength f2a × TableLength a2f × (length raw ≡ 12)

-- place k is no more than the limit, and no more than the place before it
abbrev pub SoundFall : ℕ → List ℕ → ℕ → Type 0
SoundFall limit table k = (slice_index table k ≤ limit) × (0 < k → slice_index table k ≤ slice_index table (k - 1))

abbrev pub SoundRaw : ℕ → List ℕ → ℕ → Type 0
SoundRaw limit raw k = (1 ≤ slice_index raw k) × (slice_index raw k ≤ limit)

-- each table's entries reach no further than the other's length
abbrev pub SoundF2a : List ℕ → List ℕ → ℕ → Type 0
SoundF2a f2a a2f = SoundFall (length a2f) f2a

abbrev pub SoundA2f : List ℕ → List ℕ → ℕ → Type 0
SoundA2f f2a a2f = SoundFall (length f2a) a2f

pub record Admissible (f2a a2f raw : List ℕ) : Type 0 where
  pub lengths : SoundLengths f2a a2f raw
  pub summands : AllBelow (SoundF2a f2a a2f) (length f2a)
  pub magnitudes : AllBelow (SoundA2f f2a a2f) (length a2f)
  pub beliefs : AllBelow (SoundRaw (length f2a) raw) (length raw)

-- the first place at fault, counted from 1
abbrev pub FaultAt : (ℕ → Type 0) → ℕ → ℕ → Type 0
FaultAt P n entry = (1 ≤ entry) × FirstFault P n (entry - 1)

-- the refusal that is due: a length first, then table after table
abbrev pub Refused : List ℕ → List ℕ → List ℕ → TableRefusal → Type 0
Refused f2a a2f raw WrongLength = SoundLengths f2a a2f raw → ⊥
Refused f2a a2f raw (WrongF2a entry) =
    SoundLengths f2a a2f raw × FaultAt (SoundF2a f2a a2f) (length f2a) entry
Refused f2a a2f raw (WrongA2f entry) =
    SoundLengths f2a a2f raw × AllBelow (SoundF2a f2a a2f) (length f2a)
    × FaultAt (SoundA2f f2a a2f) (length a2f) entry
Refused f2a a2f raw (WrongRaw entry) =
    SoundLengths f2a a2f raw × AllBelow (SoundF2a f2a a2f) (length f2a)
    × AllBelow (SoundA2f f2a a2f) (length a2f) × FaultAt (SoundRaw (length f2a) raw) (length raw) entry

-- no two refusals are due at once, and none for tables that are admitted
pub record OneRefusal (f2a a2f raw : List ℕ) : Type 0 where
  pub single : (e f : TableRefusal) → Refused f2a a2f raw e → Refused f2a a2f raw f → e ≡ f
  pub none : Admissible f2a a2f raw → (e : TableRefusal) → Refused f2a a2f raw e → ⊥
