-- Check after check, what is sent takes the place of what was last sent.
use Rattle.std.proofs.Common.{◌≡◌, ℕ, zero, suc, ◌+◌, ◌-◌, ◌<◌, ◌≤◌, List, ◌++◌, map, length, get_or, take, drop, ℤ, sym, refl, ap, ◌∙◌, add-one, arith}
use borrow.Rule.Slice.PartMut.{put_mid}
use Rattle.std.specs.List.{between, AllByRecursion}
use Rattle.std.proofs.lemmas.List.FromFn.{length-map-range_with_len}
use Rattle.std.proofs.lemmas.List.Edits.{length-between}
use Rattle.std.proofs.ByRecursion.{All-append, All-take, All-drop}
use Rattle.std.proofs.lemmas.List.{map-append, append_assoc, take-map, drop-map, take_at, drop_at, drop-drop, length-append}
use Rattle.codes.specs.Admission.{SoundCheck}
use Rattle.codes.specs.Code.{start, end, check, checks, check_in}
use Rattle.codes.specs.Of.{code_of}
use Rattle.codes.specs.declared.matrix.Matrix.{Matrix}
use Rattle.codes.specs.Places.{AllBelow}
use Rattle.codes.proofs.Checks.{ends-within, check-length}
use Rattle.check_rules.specs.Meaning.{Meaning}
use Rattle.propagation.specs.Check.{received, heard, answer, answers}
use Rattle.propagation.specs.Passes.{sent_by, sent_up_to}

pub length_heard : (k : ℕ) (totals : List ℤ) (check : List ℕ) (last : List ℤ) → length (heard k totals check last) ≡ length check
unfolding heard
length_heard k totals check last = length-map-range_with_len (received k totals check last) 0 (length check)

pub length_answers : (rule : Meaning) (bit : ℕ) (xs : List ℤ) → length (answers rule bit xs) ≡ length xs
unfolding answers
length_answers rule bit xs = length-map-range_with_len (answer rule bit xs) 0 (length xs)

-- where a check of a matrix lies
pub record Reaches (x : Matrix) (k : ℕ) : Type 0 where
  pub whole : start (code_of x).ends k + length (check (code_of x) k) ≡ end (code_of x).ends k
  pub inside : end (code_of x).ends k ≤ length (code_of x).positions
  pub next : start (code_of x).ends (k + 1) ≡ end (code_of x).ends k

pub reaches : (x : Matrix) (k : ℕ) → k < checks (code_of x) → Reaches x k
reaches x k h =
    let ps = (code_of x).positions in
    let ends = (code_of x).ends in
    record {
      whole = omega (arith, check-length x.width ps ends k x.sound h, (x.sound.checks k h).0);
      inside = ends-within ps ends k x.sound.checks h;
      next = rw add-one refl;
    }

-- the last check ends with the run
pub start_last : (ps ends : List ℕ) → AllBelow (SoundCheck ps ends) (length ends) → 1 ≤ length ends → start ends (length ends) ≡ length ps
start_last ps ends sound some =
    let j : ℕ = length ends - 1 in
    let last : j + 1 ≡ length ends = omega arith in
    let begins : start ends (j + 1) ≡ end ends j = rw add-one refl in
    ap (start ends) (sym last) ∙ begins ∙ (sound j (omega arith)).2 last

module _ (rule : Meaning) (ps ends ds : List ℕ) (totals sent : List ℤ) (sound : AllBelow (SoundCheck ps ends) (length ends)) where
  pub up_to_more : (k : ℕ) → sent_up_to rule ps ends ds totals sent (k + 1) ≡ sent_up_to rule ps ends ds totals sent k ++ sent_by rule ps ends ds totals sent k
  unfolding sent_up_to
  up_to_more k = rw add-one refl

  length_by : (k : ℕ) → k < length ends → length (sent_by rule ps ends ds totals sent k) ≡ end ends k - start ends k
  length_by k h =
      length_answers rule (get_or ds k 0) _ ∙ length_heard rule.known totals (check_in ps ends k) _
      ∙ length-between ps (start ends k) (end ends k) (ends-within ps ends k sound h)

  pub length_up_to : (k : ℕ) → k ≤ length ends → length (sent_up_to rule ps ends ds totals sent k) ≡ start ends k
  unfolding sent_up_to
  length_up_to zero h = refl
  length_up_to (suc k) h =
      let low : k < length ends = omega arith in
      let before : k ≤ length ends = omega arith in
      length-append (sent_up_to rule ps ends ds totals sent k) (sent_by rule ps ends ds totals sent k)
      ∙ omega (arith, length_up_to k before, length_by k low, (sound k low).0)

module _ {X : Type 0} (f : X → ℤ) (now : List X) (done last : List ℤ) (a : ℕ) (long : length done ≡ a)
    (inv : map f now ≡ done ++ drop a last) where
  -- the part of the next check still holds what was last sent
  pub part_was : (e : ℕ) → map f (take (e - a) (drop a now)) ≡ between a e last
  part_was e =
      sym (take-map f (e - a) (drop a now)) ∙ ap (take (e - a)) (sym (drop-map f a now) ∙ ap (drop a) inv ∙ drop_at done (drop a last) a long)

  pub part_put : (e : ℕ) (part : List X) → a ≤ e → map f (put_mid a (e - a) now part) ≡ (done ++ map f part) ++ drop e last
  part_put e part h =
      let front : map f (take a now) ≡ done = sym (take-map f a now) ∙ ap (take a) inv ∙ take_at done (drop a last) a long in
      let rest : map f (drop (e - a) (drop a now)) ≡ drop e last =
      sym (drop-map f (e - a) (drop a now)) ∙ ap (drop (e - a)) (sym (drop-map f a now) ∙ ap (drop a) inv ∙ drop_at done (drop a last) a long)
      ∙ drop-drop (e - a) a last ∙ ap (λ n. drop n last) (omega arith) in
      map-append f (take a now) (part ++ drop (e - a) (drop a now))
      ∙ rw (front, map-append f part (drop (e - a) (drop a now)), rest) (sym (append_assoc done (map f part) (drop e last)))

-- what holds of every element holds after a part is put
pub all_put : {X : Type 0} (P : X → Type 0) (a k : ℕ) (now part : List X) → AllByRecursion P now → AllByRecursion P part → AllByRecursion P
    (put_mid a k now part)
all_put P a k now part all new =
    All-append P (take a now) (part ++ drop k (drop a now)) (All-take P a now all)
    (All-append P part (drop k (drop a now)) new (All-drop P k (drop a now) (All-drop P a now all)))
