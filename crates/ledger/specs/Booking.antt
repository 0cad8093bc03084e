-- The lines of a ledger that are in use, and what booking does to them.
use Rattle.std.specs.Prelude.{◌≡◌, ℕ, ◌+◌, ◌<◌, List, length, take, slice_set}
use Rattle.ledger.specs.declared.line.Line.{Line}
use Rattle.ledger.specs.declared.ledger.Ledger.{Ledger}

abbrev pub in_use : Ledger → List Line
in_use l = take l.used l.lines.now

-- a ledger with so many lines in use has one more: its run goes on, and fewer than 4,096 are used
abbrev pub Room : List Line → ℕ → Type 0
Room lines used = (used < length lines) × (used < 4096)

-- there was room: the note is the next line, one more is in use, and the other lines are as they were
abbrev pub Booked : List Line → ℕ → Line → List Line → ℕ → Type 0
Booked lines used note lines' used' = Room lines used × (used' ≡ used + 1) × (lines' ≡ slice_set lines used note)

-- there was none: the very note comes back, and nothing has changed
abbrev pub HandedBack : List Line → ℕ → Line → Line → List Line → ℕ → Type 0
HandedBack lines used note back lines' used' = ¬ (Room lines used) × (back ≡ note) × (used' ≡ used) × (lines' ≡ lines)
