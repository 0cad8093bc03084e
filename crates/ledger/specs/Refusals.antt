-- What the refusal of a full ledger tells.
use Rattle.refusals.specs.declared.Told.{Told}
use Rattle.refusals.specs.Told.{told}
use Rattle.ledger.specs.declared.note.FullLedger.{FullLedger}

abbrev pub full_told : FullLedger → Told
full_told _ = told 22 0
