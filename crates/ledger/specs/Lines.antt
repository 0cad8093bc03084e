-- What the ledger's lines add up to.
use Rattle.std.specs.Prelude.{ℕ, ◌+◌, Bool, true, false, cond, List, sum_by}
use Rattle.ledger.specs.declared.line.Line.{Line}
use Rattle.ledger.specs.declared.line.Totals.{Totals}
use Rattle.ledger.specs.declared.line.Outcome.{Outcome}
use Rattle.ledger.specs.declared.line.Outcome.TheVariants.{Open, Settled, Spent, Clashed}

abbrev pub is_settled : Outcome → Bool
is_settled Open = false
is_settled Settled = true
is_settled Spent = false
is_settled Clashed = false

-- what a line adds to the totals
abbrev pub settled_raw : Line → ℕ
settled_raw x = cond (is_settled x.outcome) x.raw 0

abbrev pub settled_leak : Line → ℕ
settled_leak x = cond (is_settled x.outcome) x.leak 0

abbrev pub part_of : Line → Totals
part_of x = record { raw = settled_raw x; leak = settled_leak x }

-- raw bits and leak over settled lines
abbrev pub totals_of : List Line → Totals
totals_of lines = record { raw = sum_by settled_raw lines; leak = sum_by settled_leak lines }

abbrev pub plus : Totals → Totals → Totals
plus a b = record { raw = a.raw + b.raw; leak = a.leak + b.leak }
