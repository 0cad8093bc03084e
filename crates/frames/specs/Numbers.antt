-- The numbers that stand for sides and for kinds of frames, and what a refusal tells.
use Rattle.std.specs.Prelude.{◌≡◌, ℕ, Result, MatchResult}
use Rattle.refusals.specs.declared.Told.{Told}
use Rattle.refusals.specs.Told.{told}
use Rattle.frames.specs.declared.refusal.FrameRefusal.{FrameRefusal}
use Rattle.frames.specs.declared.refusal.FrameRefusal.TheVariants.{WrongSize, WrongByte, ShortBuffer}
use Rattle.frames.specs.declared.side.Side.{Side}
use Rattle.frames.specs.declared.side.Side.TheVariants.{Alice, Bob}
use Rattle.frames.specs.declared.side.UnknownSide.{UnknownSide}
use Rattle.frames.specs.declared.kind.Kind.{Kind}
use Rattle.frames.specs.declared.kind.Kind.TheVariants.{Syndrome, Disclosure}
use Rattle.frames.specs.declared.kind.UnknownKind.{UnknownKind}

abbrev pub side_number : Side → ℕ
side_number Alice = 0
side_number Bob = 1

abbrev pub kind_number : Kind → ℕ
kind_number Syndrome = 1
kind_number Disclosure = 2

abbrev pub IsNumberOfSide : Side → ℕ → Type 0
IsNumberOfSide side number = number ≡ side_number side

abbrev pub IsNumberOfKind : Kind → ℕ → Type 0
IsNumberOfKind kind number = number ≡ kind_number kind

-- the side with this number, or the number back where no side has it
abbrev pub SideNumbered : ℕ → Result Side UnknownSide → Type 0
SideNumbered number r = MatchResult r (λ side. side_number side ≡ number) (λ e. (e.0 ≡ number) × ((side : Side) → side_number side ≡ number → ⊥))

-- the kind with this number, or the number back where no kind has it
abbrev pub KindNumbered : ℕ → Result Kind UnknownKind → Type 0
KindNumbered number r = MatchResult r (λ kind. kind_number kind ≡ number) (λ e. (e.0 ≡ number) × ((kind : Kind) → kind_number kind ≡ number → ⊥))

-- the byte at fault, the length that is needed, or 0 where there is neither
abbrev pub frame_told : FrameRefusal → Told
frame_told WrongSize = told 1 0
frame_told (WrongByte place) = told 13 place
frame_told (ShortBuffer needed) = told 12 needed
