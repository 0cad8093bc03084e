use Rattle.std.proofs.Common.{◌≡◌, arith}
use Rattle.std.proofs.lemmas.Grind.{common_steps}
use Rattle.frames.specs.Numbers.{kind_number}
use Rattle.frames.specs.Of.{reading_of}
use Rattle.frames.specs.Reading.{kind_in, read_shape}
use Rattle.frames.proofs.Faults.{wrong_side, late_syndrome, early_disclosure}
use Rattle.frames.proofs.RoundTrip.{frame_back, frame_formed}
use Rattle.frames.proofs.reading.read.Goals as goal
use Rattle.frames.proofs.reading.read.Goals.{in_default-2-via-in-Syndrome+in_default, in_default-2-via-in-Disclosure+then-this-lt1}

pub returns-in_err-side-clause-value : goal.returns-in_err-side-clause-value
returns-in_err-side-clause-value c =
    let known : kind_number c.in_ok-kind.kind ≡ kind_in c.args.bytes.now = grind (arith, common_steps) in
    grind (arith, common_steps, wrong_side c.args.n c.args.m c.args.bytes.now c.in_ok-kind.kind known)

pub returns-in_default-2-clause-value : goal.returns-in_default-2-clause-value
returns-in_default-2-clause-value c =
    elim c.in_default-2.branch [
      | in_default-2-via-in-Syndrome+in_default w ↦ grind (arith, common_steps, late_syndrome c.args.n c.args.m c.args.bytes.now c.in_ok-side.side)
      | in_default-2-via-in-Disclosure+then-this-lt1 w ↦ grind (arith, common_steps, early_disclosure c.args.n c.args.m c.args.bytes.now c.in_ok-side.side)
    ]

pub returns-in-Syndrome-eq0-clause-back : goal.returns-in-Syndrome-eq0-clause-back
returns-in-Syndrome-eq0-clause-back c =
    let read : reading_of c.read_syndrome.result ≡ read_shape c.args.n c.args.m c.args.bytes.now = grind (arith, common_steps) in
    frame_back c.args.n c.args.m c.args.bytes.now (λ q. omega (arith, c.type_inv.bytes q)) c.read_syndrome.result read

pub returns-in-Syndrome-eq0-clause-formed : goal.returns-in-Syndrome-eq0-clause-formed
returns-in-Syndrome-eq0-clause-formed c =
    let read : reading_of c.read_syndrome.result ≡ read_shape c.args.n c.args.m c.args.bytes.now = grind (arith, common_steps) in
    frame_formed c.args.n c.args.m c.args.bytes.now (λ q. omega (arith, c.type_inv.bytes q)) c.read_syndrome.result read

pub returns-in-Disclosure-1-to-65535-clause-back : goal.returns-in-Disclosure-1-to-65535-clause-back
returns-in-Disclosure-1-to-65535-clause-back c =
    let read : reading_of c.read_disclosure.result ≡ read_shape c.args.n c.args.m c.args.bytes.now = grind (arith, common_steps) in
    frame_back c.args.n c.args.m c.args.bytes.now (λ q. omega (arith, c.type_inv.bytes q)) c.read_disclosure.result read

pub returns-in-Disclosure-1-to-65535-clause-formed : goal.returns-in-Disclosure-1-to-65535-clause-formed
returns-in-Disclosure-1-to-65535-clause-formed c =
    let read : reading_of c.read_disclosure.result ≡ read_shape c.args.n c.args.m c.args.bytes.now = grind (arith, common_steps) in
    frame_formed c.args.n c.args.m c.args.bytes.now (λ q. omega (arith, c.type_inv.bytes q)) c.read_disclosure.result read
