use Rattle.std.proofs.Common.{ℕ, ◌^◌, ◌≤◌, map, sum, rules, arith}
use Rattle.std.specs.List.{range_with_len}
use Rattle.std.proofs.lemmas.Iterator.{YieldsList-from_map, YieldsList-from_range}
use Rattle.std.proofs.lemmas.Iterator.Consumers.{sum_from_yields_List, fits_from_yields_list}
use Rattle.runs.specs.Bits.{unpacked, bit_at}
use Rattle.runs.proofs.Packed.{ones_fit}
use Rattle.runs.proofs.run.Run.ones.Goals as goal

pub sum-requires-clause-fits : goal.sum-requires-clause-fits
sum-requires-clause-fits c =
    let bit = bit_at c.args.self.now.bytes.now in
    let w = c.args.self.now.width in
    let few : sum (map bit (range_with_len 0 w)) ≤ w = ones_fit bit (λ i. omega arith) w in
    fits_from_yields_list c.map.result (2 ^ 64)
    (YieldsList-from_map _ bit (YieldsList-from_range 0 w w (search rules) (omega arith)) c.map.ensures.closure (λ i r f k. search rules))
    (omega (arith, few))

pub returns : goal.returns
unfolding unpacked
returns c =
    let bit = bit_at c.args.self.now.bytes.now in
    let w = c.args.self.now.width in
    sum_from_yields_List c.map.result c.sum.result c.sum.ensures.ran
    (YieldsList-from_map _ bit (YieldsList-from_range 0 w w (search rules) (omega arith)) c.map.ensures.closure (λ i r f k. search rules))
