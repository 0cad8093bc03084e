use Rattle.std.proofs.Common.{rules}
use Rattle.reconcile.proofs.Lists.{read_from_map, failed_from_map}
use Rattle.reconcile.specs.declared.error.LineError.TheVariants.{NotUnderstood}
use Rattle.reconcile.proofs.words.list.Goals as goal

pub returns-in_default-clause-other : goal.returns-in_default-clause-other
returns-in_default-clause-other g c _ =
    read_from_map _ c.args.read (λ x r. g.F.Fn.post c.args.read (x, tt) r) (λ x r k. search rules) (λ a r f k. search rules)
    c.map.ensures.runs _ c.try_collect.ensures.runs

pub returns-in_default-clause-refused : goal.returns-in_default-clause-refused
returns-in_default-clause-refused g c =
    failed_from_map _ c.args.read (λ x r. g.F.Fn.post c.args.read (x, tt) r) (λ x r k. search rules) (λ a r f k. search rules)
    c.map.ensures.runs _ NotUnderstood (λ (w, is). cc) _ _ c.try_collect.ensures.err
