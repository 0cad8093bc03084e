use Rattle.std.proofs.Common.{arith, rules}
use Rattle.codes.specs.Of.{code_of}
use Rattle.decoders.proofs.Fits.{fits-checked, fits_failed}
use Rattle.decoders.proofs.inquiry.Inquiry.fits.Goals as goal

pub returns-then-checks_fit : goal.returns-then-checks_fit
returns-then-checks_fit c =
    let i = c.args.self.now in (
      record { checked = search rules; stated = search rules; patterned = search rules },
      fits-checked (code_of i.matrix.now) i.difference.now i.states.now c.args.pattern.now c.checks-m.result
          c.width-n.result i.q c.checks-m.ensures c.width-n.ensures (omega arith) (omega arith) c.checks_fit.result
          c.checks_fit.ensures c.known_bits_fit-fit.result c.if-checks_fit.true c.known_bits_fit-fit.ensures,
    )

pub returns-else-checks_fit : goal.returns-else-checks_fit
returns-else-checks_fit c =
    let i = c.args.self.now in (
      record { checked = search rules; stated = search rules; patterned = search rules },
      fits_failed (code_of i.matrix.now) i.difference.now i.states.now c.args.pattern.now c.checks-m.result
          c.width-n.result i.q c.checks-m.ensures c.width-n.ensures (omega arith) (omega arith) c.checks_fit.result
          c.checks_fit.ensures c.if-checks_fit.false,
    )
