-- The six-position matrix is one.
use Rattle.std.proofs.Common.{ℕ, ◌<◌, refl, arith, lit<, lit≤}
use Rattle.codes.specs.Admission.{Admissible, SoundCheck, SoundEntry, SoundPosition, Follows}
use Rattle.codes.specs.Six.{six_positions}
use Rattle.worked_cases.proofs.Listed.{each, ◌then◌}

-- no check goes on at the entries 0, 3 and 6
begins_at : (j : ℕ) → (0 < j → j < 3 → ⊥) → (3 < j → j < 6 → ⊥) → (6 < j → j < 9 → ⊥)
    → (k : ℕ) → Follows six_positions.ends k j → ⊥
begins_at j a b c k f =
    each (λ k. Follows six_positions.ends k j → ⊥) 3
    (tt then (λ f. a f.1 f.2) then (λ f. b f.1 f.2) then (λ f. c f.1 f.2)) k f.0 f

pub six_admissible : Admissible 6 3 six_positions.positions six_positions.ends
six_admissible =
    record {
      sizes = ((lit≤ tt, lit≤ tt, lit≤ tt, lit≤ tt, lit< tt), lit≤ tt, refl);
      checks =
          each (SoundCheck six_positions.positions six_positions.ends) 3
          (tt then (lit< tt, lit≤ tt, λ e. absurd (omega arith)) then (lit< tt, lit≤ tt, λ e. absurd (omega arith))
          then (lit< tt, lit≤ tt, λ e. refl));
      entries =
          each (SoundEntry 6 six_positions.positions six_positions.ends) 9
          (tt
          then (lit< tt, λ k f. absurd (begins_at 0 (λ a b. omega arith) (λ a b. omega arith) (λ a b. omega arith) k f))
          then (lit< tt, λ k f. lit< tt) then (lit< tt, λ k f. lit< tt)
          then (lit< tt, λ k f. absurd (begins_at 3 (λ a b. omega arith) (λ a b. omega arith) (λ a b. omega arith) k f))
          then (lit< tt, λ k f. lit< tt) then (lit< tt, λ k f. lit< tt)
          then (lit< tt, λ k f. absurd (begins_at 6 (λ a b. omega arith) (λ a b. omega arith) (λ a b. omega arith) k f))
          then (lit< tt, λ k f. lit< tt) then (lit< tt, λ k f. lit< tt));
      places =
          each (SoundPosition six_positions.positions) 6
          (tt then (lit≤ tt, lit≤ tt) then (lit≤ tt, lit≤ tt) then (lit≤ tt, lit≤ tt)
          then (lit≤ tt, lit≤ tt) then (lit≤ tt, lit≤ tt) then (lit≤ tt, lit≤ tt));
    }
