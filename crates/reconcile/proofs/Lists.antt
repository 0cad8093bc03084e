-- What a chain of `map` and `try_collect` leaves in a `Vec`.
use Rattle.std.proofs.Common.{◌≡◌, ◌+◌, ◌≤◌, List, [], ◌∷◌, ◌++◌, length, Option, Some, None}
use Rattle.std.proofs.Common.{Result, Ok, Err, Vec, Global, arith, subst, sym, ap, ◌∙◌, inl, inr, length-append}
use Rattle.std.specs.Prelude.{◌⊎◌, IfOk, IfErr, IfSome, IsSomeAnd, slice_index_or, vec_len, vec_capacity}
use Rattle.std.specs.Iterator.Runs.{SomeRun, WholeRun, EachRunFrom, CallKeepsClosure, IsMapRun, IsTryCollectRun, EndsAtFirstErr, AnyItem}
use Rattle.std.specs.Option.{IsSomeRelated}
use Rattle.std.specs.Fn.{Mut, Called}
use Rattle.reconcile.specs.Words.{ReadAs}

-- what `collect` and `extend` say of a `Vec`
abbrev Collects : {T : Type 0} → List T → Vec T Global → Type 0
Collects xs v = (v.items ≡ xs) × (vec_len v ≡ length xs)

abbrev Extends : {T : Type 0} → Vec T Global → List T → Vec T Global → Type 0
Extends v xs w = (w.items ≡ v.items ++ xs) × (vec_len w ≡ vec_len v + length xs) × (vec_capacity v ≤ vec_capacity w)

grows : {T : Type 0} (xs : List T) (v : Vec T Global) (x : T) (w : Vec T Global) → Collects xs v → Extends v (x ∷ []) w → Collects (xs ++ x ∷ []) w
grows xs v x w (items, len) (more, longer, _) = (more ∙ ap (λ l. l ++ x ∷ []) items, longer ∙ ap (λ n. n + 1) len ∙ sym (length-append xs (x ∷ [])))

module _ {A F T E : Type 0} (g : Mut F (A × Unit {0}) (Result T E)) (read : F) (Reads : A → Result T E → Type 0)
    (means : (x : A) (r : Result T E) → Called g read (x, tt) r read → Reads x r) where
  -- the closure gave r for the part, if there is one
  abbrev Gave : Option A → Result T E → Type 0
  Gave s r = IsSomeAnd s (λ x. Called g read (x, tt) r read)

  abbrev MapRuns : {S M : Type 0} → (S → Option A → S → Type 0) → (M → Option (Result T E) → M → Type 0) → S → M → Type 0
  MapRuns steps mapped parts m = EachRunFrom mapped m (λ p. SomeRun steps parts (λ q. IsMapRun p q g read))

  behind : (o : Option (Result T E)) (s : Option A) (r : Result T E) → IsSomeRelated (λ x r. r ≡ x) o r → IfSome o (Gave s) → IsSomeRelated Reads s r
  behind None s r h k = absurd h
  behind (Some x) None r h k = absurd k
  behind (Some x) (Some y) r h k = means y r (subst (λ r. Called g read (y, tt) r read) (sym h) k)

  -- the items that were collected are what the closure read of the parts
  pub read_from_map : {S M : Type 0} {steps : S → Option A → S → Type 0} {mapped : M → Option (Result T E) → M → Type 0} {parts : S} {m : M}
      → CallKeepsClosure g read → MapRuns steps mapped parts m
      → (r : Result (Vec T Global) E) → IfOk r (λ v. WholeRun mapped m (λ p. IsTryCollectRun p (λ s r. r ≡ s) Collects Extends v))
      → IfOk r (λ v. WholeRun steps parts (ReadAs (λ x y. Reads x (Ok y)) v.items))
  read_from_map keeps runs (Err e) whole = tt
  read_from_map keeps runs (Ok v) whole =
      let p = whole.0 in
      let r = runs p p.seen whole.1 in
      let q = r.0 in
      let same = r.2.1 in
      let pairs = (r.2.2 keeps).1 in
      let c = whole.3 grows in
      rw c.1.0 (q, r.1, r.2.0 ∙ whole.2, (c.2 ∙ same, λ k d lt. held (p.at k) (q.at k) (slice_index_or c.0 k d) (c.3 k d (omega arith)) (pairs k)))
    where
      held : (o : Option (Result T E)) (s : Option A) (y : T) → IsSomeRelated (λ x y. Ok y ≡ x) o y → IfSome o (Gave s)
          → IsSomeRelated (λ x y. Reads x (Ok y)) s y
      held None s y h k = absurd h
      held (Some x) None y h k = absurd k
      held (Some x) (Some a) y h k = behind (Some x) (Some a) (Ok y) h k

  -- the error is want of memory, or what the closure gave for a part
  pub failed_from_map : {S M : Type 0} {steps : S → Option A → S → Type 0} {mapped : M → Option (Result T E) → M → Type 0} {parts : S} {m : M}
      → CallKeepsClosure g read → MapRuns steps mapped parts m → (want : E → Type 0) (other : E) → ¬ (want other) → (Q : Type 0)
      → (r : Result (Vec T Global) E) → IfErr r (λ e. want e ⊎ SomeRun mapped m (λ p. EndsAtFirstErr p (λ s r. r ≡ s) e))
      → IfErr r (λ e. e ≡ other → Q → SomeRun steps parts (λ q. AnyItem q (λ x. Reads x (Err e))))
  failed_from_map keeps runs want other none Q (Ok v) failed = tt
  failed_from_map keeps runs want other none Q (Err e) (inl w) = λ is _. absurd (none (subst want is w))
  failed_from_map keeps runs want other none Q (Err e) (inr f) = λ _ _.
      let p = f.0 in
      let r = runs p p.seen f.1 in
      let q = r.0 in
      let len : p.len ≡ q.len = r.2.1 in
      let pairs = (r.2.2 keeps).1 in
      let i = f.2.0 in
      let at : p.len ≡ i + 1 = f.2.1 in
      (q, r.1, (i, omega arith, given (p.at i) (q.at i) e f.2.2 (pairs i)))
    where
      given : (o : Option (Result T E)) (s : Option A) (e : E) → IsSomeAnd o (λ x. Err e ≡ x) → IfSome o (Gave s) → IsSomeAnd s (λ x. Reads x (Err e))
      given None s e h k = absurd h
      given (Some x) None e h k = absurd k
      given (Some x) (Some a) e h k = behind (Some x) (Some a) (Err e) h k
