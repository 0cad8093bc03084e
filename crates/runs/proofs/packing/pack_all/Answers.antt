use Rattle.std.proofs.Common.{◌≡◌, ℕ, ◌∷◌, [], map, length, Some, Option, IfSome, ◌∙◌, sym, ap}
use Rattle.std.proofs.lemmas.List.{length-map, map-append}
use Rattle.std.proofs.iter.runs.Made.{run_of_exit, run_of_turn}
use Rattle.std.specs.Iterator.Adapters.{enumerate_steps}
use Rattle.runs.specs.Bits.{bit_of, packed_to}
use Rattle.runs.proofs.Packed.{bits_of_bytes}
use Rattle.runs.proofs.packing.pack_all.Goals as goal

pub loop-i-preserved : goal.loop-i-preserved
loop-i-preserved g c =
    let start = c.into_iter-i-iterator.result in
    let steps = enumerate_steps g.I.Iterator.next_gives in
    let came = map {A = ℕ × ℕ} (λ p. p.1) c.loop-i.yielded in
    let p = run_of_turn steps start c.loop-i.yielded c.loop-i.i-iterator c.loop-i.yielded_by
    (c.in-Some.i, c.in-Some.bit) c.next.new.self c.in-Some.ensures.steps in
    let all = c.enumerate-i-items.ensures.runs p.0 p.0.seen (p.1 ∙ c.into_iter-i-iterator.ensures.into_iter_gives) in
    let place : c.in-Some.i ≡ length c.loop-i.yielded = nth p.2.2 (all.0 (length c.loop-i.yielded)) in
    let long : length (map bit_of came) ≡ c.in-Some.i = length-map came bit_of ∙ length-map {A = ℕ × ℕ} c.loop-i.yielded (λ x. x.1) ∙ sym place in
    let is : c.loop-i.out ≡ packed_to (length c.loop-i.out) (map bit_of came) = cc in
    let put = c.put_bit.ensures.grows (map bit_of came) (bits_of_bytes came) long is in
    let more = map-append {A = ℕ × ℕ} (λ x. x.1) c.loop-i.yielded ((c.in-Some.i, c.in-Some.bit) ∷ []) in
    let bits = map-append bit_of came (c.in-Some.bit ∷ []) in
    let same = c.loop-i.auto.out in
    cc
  where
    nth : {o : Option (ℕ × ℕ)} {i bit k : ℕ} → o ≡ Some (i, bit) → IfSome o (λ x. x.0 ≡ k) → i ≡ k
    nth e h = rw e at h

pub returns : goal.returns
returns g c =
    let start = c.into_iter-i-iterator.result in
    let steps = enumerate_steps g.I.Iterator.next_gives in
    let p = run_of_exit steps start c.loop-i.yielded c.loop-i.i-iterator c.loop-i.yielded_by c.next.new.self c.in-None.ensures.steps in
    let q = (c.enumerate-i-items.ensures.runs p.0 p.0.seen (p.1 ∙ c.into_iter-i-iterator.ensures.into_iter_gives)).1 in
    let all : q.0.items ≡ map {A = ℕ × ℕ} (λ x. x.1) c.loop-i.yielded = q.2.0.1 ∙ ap (map {A = ℕ × ℕ} (λ x. x.1)) p.3.0 in
    let same : length c.clear.new.out ≡ length c.args.out.now = c.clear.auto.out in
    (q.0, q.1, q.2.1 ∙ p.2, cc)
