-- Each rule keeps its bounds: the proofs of the trait's law, which the impls name.
use Rattle.std.specs.Prelude.{ℕ, zero, suc, ◌-◌, ◌≤◌, min, max, List, [], ◌∷◌, length, sum_by, ◌==◌, slice_index}
use Rattle.std.specs.List.{AllByRecursion}
use Rattle.std.proofs.Common.{⊎_elim, arith}
use Rattle.std.proofs.ByRecursion.{All-get_or}
use Rattle.std.proofs.lemmas.Bool.{cases_lt, cond_both}
use Rattle.std.proofs.lemmas.List.{get_or_past}
use Rattle.codes.specs.Places.{AllBelow}
use Rattle.check_rules.specs.Admission.{Admissible}
use Rattle.check_rules.specs.Meaning.{SoundMeaning, raw_at}
use Rattle.check_rules.specs.Offset.{offset_rule, offset_raw, smallest}
use Rattle.check_rules.specs.Table.{entry, zeros, from_sum, table_sends, table_rule}

smallest_low : (k : ℕ) (xs : List ℕ) → smallest k xs ≤ k
smallest_low k [] = omega arith
smallest_low k (x ∷ xs) = omega (arith, smallest_low (min k x) xs)

raws_within : AllByRecursion (λ x. (1 ≤ x) × (x ≤ 800)) offset_raw
raws_within = search arith

raw_within : (q : ℕ) → (1 ≤ raw_at offset_raw q) × (raw_at offset_raw q ≤ 800)
raw_within q = All-get_or (λ x. (1 ≤ x) × (x ≤ 800)) offset_raw (min (max q 1) 12 - 1) 0 (omega arith) raws_within

pub offset_sound : SoundMeaning offset_rule
unfolding offset_rule
offset_sound =
    record {
      known_high = omega arith;
      raw_low = λ q _. (raw_within q).0;
      raw_high = λ q. (raw_within q).1;
      sends_high = λ xs. omega (arith, smallest_low 800 xs);
    }

entry_low : (k : ℕ) (table : List ℕ) (x : ℕ) → AllBelow (λ i. slice_index table i ≤ k) (length table) → entry table x ≤ k
entry_low k table zero h = omega arith
entry_low k table (suc x) h =
    ⊎_elim (λ near. h x near) (λ far. omega (arith, get_or_past table x 0 far)) (cases_lt x (length table))

module _ (f2a a2f raw : List ℕ) (a : Admissible f2a a2f raw) where
  pub from_sum_low : (s : ℕ) → from_sum f2a a2f s ≤ length f2a
  from_sum_low s =
      cond_both (s == 0) (length f2a) (entry a2f (min s (length a2f))) (λ v. v ≤ length f2a) (λ _. omega arith)
      (λ _. entry_low (length f2a) a2f (min s (length a2f)) (λ i l. (a.magnitudes i l).0))

  pub sends_low : (xs : List ℕ) → table_sends f2a a2f xs ≤ length f2a
  sends_low xs =
      cond_both (zeros xs == 0) (from_sum f2a a2f (sum_by (entry f2a) xs)) 0 (λ v. v ≤ length f2a)
      (λ _. from_sum_low (sum_by (entry f2a) xs)) (λ _. omega arith)

  pub table_sound : SoundMeaning (table_rule f2a a2f raw)
  unfolding table_rule
  table_sound =
      record {
        known_high = omega (arith, a.lengths.0);
        raw_low = λ q _. (a.beliefs (min (max q 1) 12 - 1) (omega (arith, a.lengths.2))).0;
        raw_high = λ q. (a.beliefs (min (max q 1) 12 - 1) (omega (arith, a.lengths.2))).1;
        sends_high = sends_low;
      }
