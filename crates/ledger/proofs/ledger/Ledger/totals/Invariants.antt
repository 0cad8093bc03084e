use Rattle.std.proofs.Common.{◌≡◌, ◌*◌, ◌^◌, ◌≤◌, take}
use Rattle.ledger.specs.Lines.{totals_of}
use Rattle.ledger.proofs.ledger.Ledger.totals.Given as goal

abbrev pub invariant-loop-line : goal.invariant-loop-line
invariant-loop-line l = record {
  value : l.totals ≡ totals_of (take l.line-index l.lines);
  raw : l.totals.raw ≤ l.line-index * 2 ^ 32;
  leak : l.totals.leak ≤ l.line-index * 2 ^ 32;
}
