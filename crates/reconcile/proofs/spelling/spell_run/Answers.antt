use Rattle.std.proofs.Common.{rules, arith, refl, ℕ, length}
use Rattle.std.specs.Prelude.{slice_index}
use Rattle.std.proofs.lemmas.Iterator.{YieldsList-from_map, YieldsList-from_range, text_from_collect}
use Rattle.runs.specs.Of.{bits_of}
use Rattle.reconcile.specs.Spelling.{bit_digit}
use Rattle.reconcile.proofs.SpellingLemmas.{spelled_run}
use Rattle.reconcile.proofs.spelling.spell_run.Goals as goal

pub returns : goal.returns
returns c =
    let bits = bits_of c.args.run.now in
    let h : ℕ → ℕ = λ i. bit_digit (slice_index bits i) in
    let range = YieldsList-from_range 0 c.len-2.result (length bits) (search rules) (omega (arith, c.len-2.ensures)) in
    let places = YieldsList-from_map _ h range refl (λ i r f k. search rules) in
    spelled_run bits (λ e. search rules) c.collect.result (text_from_collect c.collect.result c.collect.ensures.ran places)
