use Rattle.std.proofs.Common.{◌≡◌, Err, inl, inr, rules}
use Rattle.controller.proofs.Numbers.{admit_refused}
use Rattle.codes.specs.declared.refusal.MatrixRefusal.TheVariants.{WrongSize}
use Rattle.controller.proofs.matrix.admit.Goals as goal

pub returns-in_err-test_run : goal.returns-in_err-test_run
returns-in_err-test_run c =
    let is : c.from_residual.result ≡ Err WrongSize = search rules in
    rw is (admit_refused c.args.n c.args.m _ _ (inl c.in_err-test_run.ensures.1))

pub returns-in_err-test_run-2 : goal.returns-in_err-test_run-2
returns-in_err-test_run-2 c =
    let is : c.from_residual-in_err-test_run-2.result ≡ Err WrongSize = search rules in
    rw is (admit_refused c.args.n c.args.m _ _ (inr c.in_err-test_run-2.ensures.1))
