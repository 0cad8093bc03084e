-- What each call replies: 0 where it is accepted, else the number and place of the refusal that is due.
use Rattle.std.specs.Prelude.{◌≡◌, ℕ, ◌⊎◌, List, Ok, Err, Result}
use Rattle.refusals.specs.declared.Told.{Told}
use Rattle.refusals.specs.Told.{told}
use Rattle.codes.specs.Admission.{Admissible, Refused}
use Rattle.codes.specs.Lent.{LentSyndrome}
use Rattle.codes.specs.Refusals.{matrix_told, call_told}
use Rattle.codes.specs.declared.refusal.MatrixRefusal.{MatrixRefusal}
use Rattle.codes.specs.declared.refusal.CallRefusal.{CallRefusal}
use Rattle.controller.specs.Runs.{numbers16, Whole}
use Rattle.controller.specs.declared.reply.Reply.{Reply}

abbrev pub reply : Told → Reply
reply t = record { number = t.number; place = t.place }

-- what is told of how a call went, by what its refusals tell
abbrev pub outcome_told : {D E : Type 0} → (E → Told) → Result D E → Told
outcome_told tells (Ok done) = told 0 0
outcome_told tells (Err e) = tells e

-- what admission says of two runs of numbers
abbrev pub MatrixTold : ℕ → ℕ → List ℕ → List ℕ → Reply → Type 0
MatrixTold n m positions ends r =
    (Admissible n m positions ends × (r ≡ reply (told 0 0)))
    ⊎ ((e : MatrixRefusal) × Refused n m positions ends e × (r ≡ reply (matrix_told e)))

-- an odd run is refusal 1
abbrev pub AdmitReplies : ℕ → ℕ → List ℕ → List ℕ → Reply → Type 0
AdmitReplies n m positions ends r =
    ((Whole positions × Whole ends → ⊥) → r ≡ reply (told 1 0))
    × (Whole positions × Whole ends → MatrixTold n m (numbers16 positions) (numbers16 ends) r)

-- what a syndrome under two runs of numbers does: the buffer's front written, or a refusal and no change
abbrev pub SyndromeTold : ℕ → ℕ → List ℕ → List ℕ → List ℕ → List ℕ → List ℕ → Reply → Type 0
SyndromeTold n m positions ends key out out' r =
    (LentSyndrome {D = Unit {0}} n m positions ends key out out' (Ok tt) × (r ≡ reply (told 0 0)))
    ⊎ ((e : CallRefusal) × LentSyndrome {D = Unit {0}} n m positions ends key out out' (Err e) × (r ≡ reply (call_told e)))

abbrev pub SyndromeReplies : ℕ → ℕ → List ℕ → List ℕ → List ℕ → List ℕ → List ℕ → Reply → Type 0
SyndromeReplies n m positions ends key out out' r =
    ((Whole positions × Whole ends → ⊥) → (r ≡ reply (told 1 0)) × (out' ≡ out))
    × (Whole positions × Whole ends → SyndromeTold n m (numbers16 positions) (numbers16 ends) key out out' r)
