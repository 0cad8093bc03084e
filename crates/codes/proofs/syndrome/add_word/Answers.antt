use Rattle.std.proofs.Common.{◌≡◌, ◌+◌, ◌%◌, length, get_or, ap, ◌∙◌, arith}
use Rattle.std.proofs.lemmas.List.FromFn.{fill_by_all}
use Rattle.codes.specs.Syndrome.{syndrome, added}
use Rattle.codes.proofs.Parities.{syndrome-added}
use Rattle.codes.proofs.syndrome.add_word.Goals as goal

pub returns : goal.returns
returns c =
    let a = c.args.key.now in
    let b = c.args.word.now in
    let sum : c.loop-i.key ≡ added a b =
    fill_by_all (λ k. (get_or a k 0 + get_or b k 0) % 2) c.loop-i.key (length a) 0 c.loop-i.auto.key
    (λ k h. c.loop-i.invariant.done k (omega arith)) in
    record { sum = sum; linear = λ fits code. ap (syndrome code) sum ∙ syndrome-added a b fits code }
