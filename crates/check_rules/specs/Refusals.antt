-- What each refusal tells: its number, the table, and the entry, counted from 1; 0 where none is told.
use Rattle.std.specs.Prelude.{ℕ, ◌==◌, if◌then◌else◌, List, ◌++◌, codes}
use Rattle.std.specs.Fmt.{decimal}
use Rattle.check_rules.specs.declared.refusal.TableTold.{TableTold}
use Rattle.check_rules.specs.declared.refusal.TableRefusal.{TableRefusal}
use Rattle.check_rules.specs.declared.refusal.TableRefusal.TheVariants.{WrongLength, WrongF2a, WrongA2f, WrongRaw}

abbrev pub told : ℕ → ℕ → ℕ → TableTold
told number table entry = record { number = number; table = table; entry = entry }

abbrev pub table_told : TableRefusal → TableTold
table_told WrongLength = told 5 0 0
table_told (WrongF2a entry) = told 6 0 entry
table_told (WrongA2f entry) = told 6 1 entry
table_told (WrongRaw entry) = told 6 2 entry

-- what is printed: the number, then table and entry, or one 0 where no entry is told
abbrev pub told_text : TableTold → List ℕ
told_text t =
    decimal t.number ++ (if t.entry == 0 then codes " 0" else (codes " " ++ (decimal t.table ++ (codes " " ++ decimal t.entry))))
