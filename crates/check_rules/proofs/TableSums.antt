-- The sums of the others of a place.
use Rattle.std.proofs.Common.{◌≡◌, ℕ, zero, suc, ◌+◌, ◌-◌, ◌<◌, ◌≤◌, cond, eqb, ltb, List, length, get_or, sum_by, sym, refl, ◌∙◌, arith}
use Rattle.std.specs.List.{remove}
use Rattle.std.proofs.lemmas.Bool.Decides.{nat_tests}
use Rattle.check_rules.proofs.Others.{sum_by_removed}
use Rattle.check_rules.specs.Table.{entry, zeros, from_sum, table_sends, SumsOf}

pub entry_above : (table : List ℕ) (x : ℕ) → 1 ≤ x → entry table x ≡ get_or table (x - 1) 0
entry_above table zero h = absurd (omega arith)
entry_above table (suc x) h = let e : suc x - 1 ≡ x = omega arith in rw e refl

pub own_in_sum : (f2a xs : List ℕ) (z s i : ℕ) → SumsOf f2a xs z s → i < length xs → entry f2a (get_or xs i 0) ≤ s
own_in_sum f2a xs z s i sums h = omega (arith, sum_by_removed (entry f2a) xs i 0 h, sums.sum_is)

-- what is left of the sums without place i is what the others send
pub others_send : (f2a a2f xs : List ℕ) (z s i size : ℕ)
    → SumsOf f2a xs z s
    → i < length xs
    → size ≡ get_or xs i 0
    → cond (ltb (cond (eqb size 0) 1 0) z) 0 (from_sum f2a a2f (s - entry f2a size)) ≡ table_sends f2a a2f (remove xs i)
others_send f2a a2f xs z s i size sums h e =
    let left : s - entry f2a size ≡ sum_by (entry f2a) (remove xs i) =
    rw e (omega (arith, sum_by_removed (entry f2a) xs i 0 h, sums.sum_is)) in
    let none : zeros (remove xs i) + cond (eqb size 0) 1 0 ≡ z =
    rw e (sum_by_removed (λ x. cond (eqb x 0) 1 0) xs i 0 h ∙ sym sums.zeros_is) in
    rw left (chosen (zeros (remove xs i)) (cond (eqb size 0) 1 0) z (from_sum f2a a2f (sum_by (entry f2a) (remove xs i))) none)
  where
    chosen : (n own z v : ℕ) → n + own ≡ z → cond (ltb own z) 0 v ≡ cond (eqb n 0) v 0
    chosen n own z v e = grind (arith, nat_tests)
