use Rattle.std.proofs.Common.{ℕ, eqb, get_or, length, ap, ◌∙◌, arith}
use Rattle.std.proofs.lemmas.Grind.{common_steps}
use Rattle.std.proofs.lemmas.Iterator.{YieldsList-from_slice, YieldsList-from_map}
use Rattle.std.proofs.lemmas.Iterator.Consumers.{YieldsList-at, YieldsList-from_enumerate, YieldsList-from_filter}
use Rattle.runs.specs.Bits.{packed_to}
use Rattle.runs.proofs.Gives.{packs}
use Rattle.frames.proofs.Gathered.{gathers}
use Rattle.frames.proofs.writing.pack_values.Goals as goal

pub returns : goal.returns
returns c =
    let rounds = YieldsList-at c.enumerate.ensures.source (YieldsList-from_slice c.args.rounds.now c.iter.ensures.rest) in
    let places = YieldsList-at c.filter-disclosed.ensures.source (YieldsList-from_enumerate rounds c.enumerate.ensures.count) in
    let disclosed = YieldsList-at c.map.ensures.source
    (YieldsList-from_filter _ (λ (x : ℕ × ℕ). eqb x.1 c.args.round) places c.filter-disclosed.ensures.closure (λ x b f k. grind (arith, common_steps, k))) in
    let bytes = YieldsList-from_map _ (λ (x : ℕ × ℕ). get_or c.args.key.now x.0 0) disclosed c.map.ensures.closure
    (λ x r f k. grind (arith, common_steps, k)) in
    packs c.args.out.now c.pack_all.new.out c.pack_all.ensures bytes
    ∙ ap (packed_to (length c.args.out.now)) (gathers c.args.round c.args.rounds.now c.args.key.now)
