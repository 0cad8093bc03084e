use Rattle.std.proofs.Common.{rules, ◌≢◌, codes}
use Rattle.reconcile.proofs.WordLemmas.{decoded_digits}
use Rattle.reconcile.proofs.words.hexadecimal.Goals as goal

pub returns-then-any : goal.returns-then-any
returns-then-any c = λ _ xs h.
    let other : c.args.word.now ≢ codes "-" = search rules in
    let written = h.other other in
    let lower = written.lower in
    let digits = decoded_digits c.args.word.now xs written.value in
    search rules
