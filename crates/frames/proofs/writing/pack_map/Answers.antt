use Rattle.std.proofs.Common.{ℕ, cond, eqb, length, ap, ◌∙◌, arith}
use Rattle.std.proofs.lemmas.Grind.{common_steps}
use Rattle.std.proofs.lemmas.Iterator.{YieldsList-from_slice, YieldsList-from_map}
use Rattle.std.proofs.lemmas.Iterator.Consumers.{YieldsList-at}
use Rattle.runs.specs.Bits.{packed_to}
use Rattle.runs.proofs.Gives.{packs}
use Rattle.frames.proofs.Gathered.{marked}
use Rattle.frames.proofs.writing.pack_map.Goals as goal

pub returns : goal.returns
returns c =
    let rounds = YieldsList-at c.map.ensures.source (YieldsList-from_slice c.args.rounds.now c.iter.ensures.rest) in
    let marks = YieldsList-from_map _ (λ (x : ℕ). cond (eqb x c.args.round) 1 0) rounds c.map.ensures.closure (λ x r f k. grind (arith, common_steps, k)) in
    packs c.args.out.now c.pack_all.new.out c.pack_all.ensures marks ∙ ap (packed_to (length c.args.out.now)) (marked c.args.round c.args.rounds.now)
