-- What a refusal tells.
use Rattle.std.specs.Prelude.{ℕ, List, ◌++◌, codes, decimal}
use Rattle.refusals.specs.declared.Told.{Told}

-- a number and a place
abbrev pub told : ℕ → ℕ → Told
told number place = record { number = number; place = place }

-- as it is printed
abbrev pub told_text : Told → List ℕ
told_text t = decimal t.number ++ (codes " " ++ decimal t.place)
