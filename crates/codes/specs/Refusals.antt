-- What each refusal tells: its number, and the place at fault or the length that is needed; 0 where there is neither.
use Rattle.refusals.specs.declared.Told.{Told}
use Rattle.refusals.specs.Told.{told}
use Rattle.codes.specs.declared.refusal.MatrixRefusal.{MatrixRefusal}
use Rattle.codes.specs.declared.refusal.MatrixRefusal.TheVariants.{WrongSize, WrongCheck, WrongEntry, WrongPosition}
use Rattle.codes.specs.declared.refusal.SyndromeRefusal.{SyndromeRefusal}
use Rattle.codes.specs.declared.refusal.SyndromeRefusal.TheVariants.{WrongKey, ShortBuffer}
use Rattle.codes.specs.declared.refusal.CallRefusal.{CallRefusal}
use Rattle.codes.specs.declared.refusal.CallRefusal.TheVariants.{Matrix, Syndrome}

abbrev pub matrix_told : MatrixRefusal → Told
matrix_told WrongSize = told 1 0
matrix_told (WrongCheck k) = told 2 k
matrix_told (WrongEntry j) = told 3 j
matrix_told (WrongPosition i) = told 4 i

abbrev pub syndrome_told : SyndromeRefusal → Told
syndrome_told (WrongKey i) = told 9 i
syndrome_told (ShortBuffer needed) = told 12 needed

abbrev pub call_told : CallRefusal → Told
call_told (Matrix e) = matrix_told e
call_told (Syndrome e) = syndrome_told e
