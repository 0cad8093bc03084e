-- A syndrome under runs that are only lent: first what admission would say of them, then what a matrix would.
use Rattle.std.specs.Prelude.{◌≡◌, ℕ, List, Ok, Err, Result}
use Rattle.codes.specs.Admission.{Admissible, Refused}
use Rattle.codes.specs.Code.{Code}
use Rattle.codes.specs.Syndrome.{SyndromeGiven}
use Rattle.codes.specs.declared.refusal.CallRefusal.{CallRefusal}
use Rattle.codes.specs.declared.refusal.CallRefusal.TheVariants.{Matrix, Syndrome}

-- the runs as a matrix; its number plays no part
abbrev pub lent : ℕ → List ℕ → List ℕ → Code
lent n positions ends = record { number = 0; width = n; positions = positions; ends = ends }

abbrev pub LentSyndrome : {D : Type 0} → ℕ → ℕ → List ℕ → List ℕ → List ℕ → List ℕ → List ℕ → Result D CallRefusal → Type 0
LentSyndrome n m positions ends key out out' (Err (Matrix e)) = Refused n m positions ends e × (out' ≡ out)
LentSyndrome {D} n m positions ends key out out' (Err (Syndrome e)) =
    Admissible n m positions ends × SyndromeGiven {D = D} (lent n positions ends) key out out' (Err e)
LentSyndrome {D} n m positions ends key out out' (Ok done) =
    Admissible n m positions ends × SyndromeGiven {D = D} (lent n positions ends) key out out' (Ok done)
