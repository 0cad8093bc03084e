-- At most one refusal is due.
use Rattle.std.proofs.Common.{◌≡◌, ℕ, List, refl, ap, ⊎_elim}
use Rattle.std.proofs.lemmas.Bool.{cases_order}
use Rattle.codes.specs.Places.{FirstFault}
use Rattle.codes.specs.Admission.{Admissible, Refused, OneRefusal, SoundCheck, SoundEntry, SoundPosition}
use Rattle.codes.specs.declared.refusal.MatrixRefusal.{MatrixRefusal}
use Rattle.codes.specs.declared.refusal.MatrixRefusal.TheVariants.{WrongSize, WrongCheck, WrongEntry, WrongPosition}

first-same : (P : ℕ → Type 0) (n i j : ℕ) → FirstFault P n i → FirstFault P n j → i ≡ j
first-same P n i j a b =
    ⊎_elim (λ e. e) (⊎_elim (λ l. absurd (a.1 (b.2 i l))) (λ l. absurd (b.1 (a.2 j l)))) (cases_order i j)

module _ (n m : ℕ) (ps es : List ℕ) where
  single : (e f : MatrixRefusal) → Refused n m ps es e → Refused n m ps es f → e ≡ f
  single WrongSize WrongSize a b = refl
  single WrongSize (WrongCheck k) a b = absurd (a b.0)
  single WrongSize (WrongEntry j) a b = absurd (a b.0)
  single WrongSize (WrongPosition i) a b = absurd (a b.0)
  single (WrongCheck k) WrongSize a b = absurd (b a.0)
  single (WrongCheck k) (WrongCheck l) a b = ap WrongCheck (first-same (SoundCheck ps es) m k l a.1 b.1)
  single (WrongCheck k) (WrongEntry j) a b = absurd (a.1.1 (b.1 k a.1.0))
  single (WrongCheck k) (WrongPosition i) a b = absurd (a.1.1 (b.1 k a.1.0))
  single (WrongEntry j) WrongSize a b = absurd (b a.0)
  single (WrongEntry j) (WrongCheck k) a b = absurd (b.1.1 (a.1 k b.1.0))
  single (WrongEntry j) (WrongEntry l) a b = ap WrongEntry (first-same (SoundEntry n ps es) _ j l a.2 b.2)
  single (WrongEntry j) (WrongPosition i) a b = absurd (a.2.1 (b.2 j a.2.0))
  single (WrongPosition i) WrongSize a b = absurd (b a.0)
  single (WrongPosition i) (WrongCheck k) a b = absurd (b.1.1 (a.1 k b.1.0))
  single (WrongPosition i) (WrongEntry j) a b = absurd (b.2.1 (a.2 j b.2.0))
  single (WrongPosition i) (WrongPosition l) a b = ap WrongPosition (first-same (SoundPosition ps) n i l a.3 b.3)

  none : Admissible n m ps es → (e : MatrixRefusal) → Refused n m ps es e → ⊥
  none a WrongSize r = r a.sizes
  none a (WrongCheck k) r = r.1.1 (a.checks k r.1.0)
  none a (WrongEntry j) r = r.2.1 (a.entries j r.2.0)
  none a (WrongPosition i) r = r.3.1 (a.places i r.3.0)

  pub one_refusal : OneRefusal n m ps es
  one_refusal = record { single = single; none = none }
