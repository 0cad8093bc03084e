use Rattle.std.proofs.Common.{rules, lit<}
use Rattle.std.proofs.lemmas.Iterator.Splits.{YieldsList-from_str_split}
use Rattle.reconcile.specs.Words.{IsNumber, parts}
use Rattle.reconcile.proofs.WordLemmas.{just_read, number_read, number_refused}
use Rattle.reconcile.proofs.words.run.Goals as goal

pub returns : goal.returns
returns c =
    let l = c.list.ensures in
    let s = c.split.ensures in
    let cuts = YieldsList-from_str_split {s = c.split.result} 44 c.args.word.now (lit< tt) s.text s.has_more s.pattern in
    just_read (λ x. x.now) (parts c.args.word.now) cuts c.args.word.now _ _ IsNumber
    (λ x y k. search (rules, number_read)) (λ x y k h. number_refused x.now y (λ d. (k.1 d).1.0) h)
    c.list.result l.some l.dash l.other l.refused
