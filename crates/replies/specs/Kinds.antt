-- The kinds of positions by their numbers.
use Rattle.std.specs.Prelude.{ℕ, zero, suc, Some, None, Option}
use Rattle.replies.specs.declared.kind.Kind.{Kind}
use Rattle.replies.specs.declared.kind.Kind.TheVariants.{Raw, Punctured, Shortened}

abbrev pub kind_number : Kind → ℕ
kind_number Raw = 0
kind_number Punctured = 1
kind_number Shortened = 2

abbrev pub kind_of : ℕ → Option Kind
kind_of zero = Some Raw
kind_of (suc zero) = Some Punctured
kind_of (suc (suc zero)) = Some Shortened
kind_of (suc (suc (suc n))) = None
