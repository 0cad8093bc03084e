use Rattle.std.proofs.Common.{rules}
use Rattle.std.proofs.lemmas.Iterator.Adapters.{YieldsList-from_bytes}
use Rattle.reconcile.specs.Words.{IsLetter}
use Rattle.reconcile.proofs.WordLemmas.{just_read}
use Rattle.reconcile.proofs.words.states.Goals as goal

pub returns : goal.returns
returns c =
    let l = c.list.ensures in
    let bytes = YieldsList-from_bytes {s = c.bytes.result} c.args.word.now c.bytes.ensures.rest in
    just_read (λ x. x) c.args.word.now bytes c.args.word.now _ _ IsLetter (λ x y k. search rules) (λ x y k h. k.1 y h)
    c.list.result l.some l.dash l.other l.refused
