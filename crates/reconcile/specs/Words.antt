-- What the words of a script line stand for.
use Rattle.std.specs.Prelude.{◌≡◌, ◌≢◌, ℕ, ◌+◌, ◌^◌, ◌<◌, ◌==◌, not, List, [], length, codes, Ok, Option, Result, Vec, MatchResult, slice_index_or}
use Rattle.std.specs.Iterator.Runs.{Run}
use Rattle.std.specs.Option.{IsSomeRelated}
use Rattle.std.specs.List.{AllPass, slice_split}
use Rattle.std.specs.Str.Parse.{IsNumeral, digits_value}
use Rattle.std.specs.Char.{is_ascii_uppercase}
use Rattle.hex.specs.Hex.{decode_of}
use Rattle.decoders.specs.declared.state.State.{State}
use Rattle.decoders.specs.declared.state.State.TheVariants.{Raw, Punctured, Known0, Known1}
use Rattle.reconcile.specs.declared.error.LineError.{LineError}
use Rattle.reconcile.specs.declared.error.LineError.TheVariants.{NotUnderstood}

-- a word is understood just where some list is written so, but for want of memory
abbrev pub IsJustRead : {T Z : Type 0} → (List T → Type 0) → Result (Vec T Z) LineError → Type 0
IsJustRead {T = T} Written r = MatchResult r (λ v. Written v.items) (λ e. e ≡ NotUnderstood → (xs : List T) → Written xs → ⊥)

-- the empty list is a dash, and no list is written without a letter
pub record OrDash {T : Type 0} (word : List ℕ) (Written : List T → Type 0) (xs : List T) : Type 0 where
  pub some : 0 < length word
  pub dash : word ≡ codes "-" → xs ≡ []
  pub other : word ≢ codes "-" → Written xs

-- the parts between commas
abbrev pub parts : List ℕ → List (List ℕ)
parts word = slice_split (λ b. b == 44) word

-- a 16-bit number in decimal digits alone
pub record IsNumber (part : List ℕ) (x : ℕ) : Type 0 where
  pub numeral : IsNumeral 10 part
  pub value : x ≡ digits_value 10 part
  pub fits : x < 2 ^ 16

pub record IsDigit (byte x : ℕ) : Type 0 where
  pub value : byte ≡ 48 + x
  pub small : x < 10

-- r, p, 0 and 1
abbrev pub letter_of : State → ℕ
letter_of Raw = 114
letter_of Punctured = 112
letter_of Known0 = 48
letter_of Known1 = 49

abbrev pub IsLetter : ℕ → State → Type 0
IsLetter byte state = byte ≡ letter_of state

-- two hexadecimal digits a byte, none in upper case
pub record IsHexadecimal (word bytes : List ℕ) : Type 0 where
  pub lower : AllPass (λ c. not (is_ascii_uppercase c)) word
  pub value : decode_of word ≡ Ok bytes

-- each part reads as the item at its place
abbrev pub ReadAs : {S A T : Type 0} {steps : S → Option A → S → Type 0} → (A → T → Type 0) → List T → Run steps → Type 0
ReadAs {T = T} Reads xs p = (length xs ≡ p.len) × ((k : ℕ) (d : T) → k < p.len → IsSomeRelated Reads (p.at k) (slice_index_or xs k d))
