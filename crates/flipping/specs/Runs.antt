-- The runs that a call is answered from.
use Rattle.std.specs.Prelude.{◌≡◌, length}
use Rattle.codes.specs.Code.{checks}
use Rattle.codes.specs.Of.{code_of}
use Rattle.decoders.specs.declared.inquiry.Inquiry.{Inquiry}

-- the runs are just as long as the matrix asks
pub record Exact (i : Inquiry) : Type 0 where
  pub checked : length i.difference.now ≡ checks (code_of i.matrix.now)
  pub stated : length i.states.now ≡ i.matrix.now.width
