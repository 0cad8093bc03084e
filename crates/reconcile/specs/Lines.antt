-- What a script line asks for.
use Rattle.std.specs.Prelude.{◌≡◌, ◌≢◌, ◌⊎◌, ℕ, List, All, codes, Some, Result, MatchResult, slice_get}
use Rattle.reconcile.specs.declared.command.Kind.{Kind}
use Rattle.reconcile.specs.declared.command.Kind.TheVariants.{Offset, Table, Flipping}
use Rattle.reconcile.specs.declared.error.LineError.{LineError}
use Rattle.reconcile.specs.declared.error.LineError.TheVariants.{NotUnderstood}

-- nothing but spaces, or a comment
abbrev pub IsPassedOver : List ℕ → Type 0
IsPassedOver line = (slice_get line 0 ≡ Some 35) ⊎ All (λ byte. byte ≡ 32) line

abbrev pub kind_name : Kind → List ℕ
kind_name Offset = codes "offset"
kind_name Table = codes "table"
kind_name Flipping = codes "flipping"

-- a kind is read from its name, and from no other word
abbrev pub KindNamed : List ℕ → Result Kind LineError → Type 0
KindNamed word r = MatchResult r (λ kind. word ≡ kind_name kind) (λ e. (e ≡ NotUnderstood) × ((kind : Kind) → word ≢ kind_name kind))
