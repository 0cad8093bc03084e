-- From a whole run of an iterator to the list that it gives.
use Rattle.std.proofs.Common.{◌≡◌, ℕ, List, map, length, Option, true, ap, ◌∙◌, subst, sym, refl, arith}
use Rattle.std.specs.List.{range_with_len}
use Rattle.std.specs.Iterator.{Drains}
use Rattle.std.specs.Iterator.Runs.{Run, WholeRun}
use Rattle.std.proofs.lemmas.List.{map-id}
use Rattle.std.proofs.lemmas.Iterator.{YieldsList, YieldsList-from_range}
use Rattle.std.proofs.iter.Yields.{nat_range_steps, gives_Drains}
use Rattle.std.proofs.iter.runs.Made.{took}
use Rattle.runs.specs.Bits.{bit_of, packed_to}

pub run_items : {S A : Type 0} {steps : S → Option A → S → Type 0} {s : S} {all : List A} (p : Run steps) → p.from ≡ s → p.whole ≡ true
    → YieldsList steps (λ x. x) s all → p.items ≡ all
run_items {steps = steps} {s = s} {all = all} p at whole yields =
    let t = took p in
    let drained : Drains steps p.from p.items = ((t.2 whole).0, (t.0, t.1, (t.2 whole).1)) in
    sym (map-id p.items) ∙ gives_Drains steps (λ x. x) p.items all s yields.runs (subst (λ k. Drains steps k p.items) at drained)

-- the numbers below n
pub range_run : (p : Run nat_range_steps) (n : ℕ) → p.whole ≡ true → p.from ≡ record { start = 0; end = n } → p.items ≡ range_with_len 0 n
range_run p n whole at = run_items p at whole (YieldsList-from_range 0 n n refl (omega arith))

-- what is packed of an iterator is the list that it gives
pub packs : {S : Type 0} {steps : S → Option ℕ → S → Type 0} {s : S} {all : List ℕ} (out new : List ℕ)
    → WholeRun steps s (λ p. new ≡ packed_to (length out) (map bit_of p.items))
    → YieldsList steps (λ x. x) s all → new ≡ packed_to (length out) (map bit_of all)
packs out new w yields = w.3 ∙ ap (λ (xs : List ℕ). packed_to (length out) (map bit_of xs)) (run_items w.0 w.1 w.2 yields)
