use Rattle.std.proofs.Common.{◌≡◌, Err, inl, inr, rules}
use Rattle.controller.proofs.Numbers.{syndrome_refused}
use Rattle.codes.specs.declared.refusal.CallRefusal.TheVariants.{Matrix}
use Rattle.codes.specs.declared.refusal.MatrixRefusal.TheVariants.{WrongSize}
use Rattle.controller.proofs.matrix.syndrome.Goals as goal

pub returns-in_err-test_run : goal.returns-in_err-test_run
returns-in_err-test_run c =
    let is : c.from_residual.result ≡ Err (Matrix WrongSize) = search rules in
    rw is (syndrome_refused c.args.n c.args.m _ _ _ _ (inl c.in_err-test_run.ensures.1))

pub returns-in_err-test_run-2 : goal.returns-in_err-test_run-2
returns-in_err-test_run-2 c =
    let is : c.from_residual-in_err-test_run-2.result ≡ Err (Matrix WrongSize) = search rules in
    rw is (syndrome_refused c.args.n c.args.m _ _ _ _ (inr c.in_err-test_run-2.ensures.1))
