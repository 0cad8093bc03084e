-- At most one refusal is due.
use Rattle.std.proofs.Common.{◌≡◌, ℕ, ◌-◌, List, refl, ap, ⊎_elim, arith}
use Rattle.std.proofs.lemmas.Bool.{cases_order}
use Rattle.check_rules.specs.Admission.{Admissible, FaultAt, Refused, OneRefusal, SoundF2a, SoundA2f, SoundRaw}
use Rattle.check_rules.specs.declared.refusal.TableRefusal.{TableRefusal}
use Rattle.check_rules.specs.declared.refusal.TableRefusal.TheVariants.{WrongLength, WrongF2a, WrongA2f, WrongRaw}

first-same : (P : ℕ → Type 0) (n i j : ℕ) → FaultAt P n i → FaultAt P n j → i ≡ j
first-same P n i j (a, f) (b, g) =
    let same : i - 1 ≡ j - 1 =
    ⊎_elim (λ e. e) (⊎_elim (λ l. absurd (f.1 (g.2 (i - 1) l))) (λ l. absurd (g.1 (f.2 (j - 1) l)))) (cases_order (i - 1) (j - 1)) in
    omega arith

module _ (f2a a2f raw : List ℕ) where
  single : (e f : TableRefusal) → Refused f2a a2f raw e → Refused f2a a2f raw f → e ≡ f
  single WrongLength WrongLength a b = refl
  single WrongLength (WrongF2a j) a b = absurd (a b.0)
  single WrongLength (WrongA2f j) a b = absurd (a b.0)
  single WrongLength (WrongRaw j) a b = absurd (a b.0)
  single (WrongF2a i) WrongLength a b = absurd (b a.0)
  single (WrongF2a i) (WrongF2a j) a b = ap WrongF2a (first-same (SoundF2a f2a a2f) _ i j a.1 b.1)
  single (WrongF2a i) (WrongA2f j) a b = absurd (a.1.1.1 (b.1 (i - 1) a.1.1.0))
  single (WrongF2a i) (WrongRaw j) a b = absurd (a.1.1.1 (b.1 (i - 1) a.1.1.0))
  single (WrongA2f i) WrongLength a b = absurd (b a.0)
  single (WrongA2f i) (WrongF2a j) a b = absurd (b.1.1.1 (a.1 (j - 1) b.1.1.0))
  single (WrongA2f i) (WrongA2f j) a b = ap WrongA2f (first-same (SoundA2f f2a a2f) _ i j a.2 b.2)
  single (WrongA2f i) (WrongRaw j) a b = absurd (a.2.1.1 (b.2 (i - 1) a.2.1.0))
  single (WrongRaw i) WrongLength a b = absurd (b a.0)
  single (WrongRaw i) (WrongF2a j) a b = absurd (b.1.1.1 (a.1 (j - 1) b.1.1.0))
  single (WrongRaw i) (WrongA2f j) a b = absurd (b.2.1.1 (a.2 (j - 1) b.2.1.0))
  single (WrongRaw i) (WrongRaw j) a b = ap WrongRaw (first-same (SoundRaw _ raw) _ i j a.3 b.3)

  none : Admissible f2a a2f raw → (e : TableRefusal) → Refused f2a a2f raw e → ⊥
  none a WrongLength b = b a.lengths
  none a (WrongF2a i) b = b.1.1.1 (a.summands (i - 1) b.1.1.0)
  none a (WrongA2f i) b = b.2.1.1 (a.magnitudes (i - 1) b.2.1.0)
  none a (WrongRaw i) b = b.3.1.1 (a.beliefs (i - 1) b.3.1.0)

  pub one_refusal : OneRefusal f2a a2f raw
  one_refusal = record { single = single; none = none }
