-- The plan of a block, and when it and a key may open an end.
use Rattle.std.specs.Prelude.{ℕ, ◌-◌, max, Bool, not, ◌&&◌, ◌||◌, List, length, Option, ◌==◌, nat_le, nat_lt, slice_index}
use Rattle.codes.specs.Code.{Code, checks}
use Rattle.decoders.specs.Fit.{all_below}
use Rattle.frames.specs.Reading.{first_wrong}
use Rattle.protocol.specs.Counting.{tally}

-- kinds: 0 raw, 1 punctured, 2 shortened, one a position
pub record Plan : Type 0 where
  pub block : ℕ
  pub side : ℕ
  pub matrix : ℕ
  pub kinds : List ℕ
  pub class : ℕ
  pub step : ℕ
  pub cap : ℕ

-- the plan of the other end differs in its side alone
abbrev pub with_side : ℕ → Plan → Plan
with_side side p = record p { side = side }

abbrev pub has_kind : ℕ → List ℕ → ℕ → Bool
has_kind kind kinds i = slice_index kinds i == kind

abbrev pub count_kind : ℕ → List ℕ → ℕ
count_kind kind kinds = tally (has_kind kind kinds) (length kinds)

-- a plan for this matrix
unfoldable pub plan_fits : Plan → Code → Bool
plan_fits p code =
    (p.matrix == code.number)
    && (length p.kinds == code.width && all_below (λ i. nat_lt (slice_index p.kinds i) 3) (length p.kinds))
    && (nat_le 1 (count_kind 0 p.kinds) && nat_le (count_kind 1 p.kinds) (checks code))
    && (nat_le 1 p.step && nat_le p.step code.width)
    && nat_le p.cap (code.width - count_kind 2 p.kinds)
    && nat_lt p.side 2
    && (nat_le 1 p.class && nat_le p.class 12)

-- place i of a key of n bits: there, not extra, a bit, and 0 where it is shortened
abbrev pub key_place : ℕ → List ℕ → List ℕ → ℕ → Bool
key_place n kinds key i =
    nat_lt i n && (nat_lt i (length key) && (nat_lt (slice_index key i) 2 && (not (has_kind 2 kinds i) || slice_index key i == 0)))

-- the first place at fault of a key
unfoldable pub wrong_key : ℕ → List ℕ → List ℕ → Option ℕ
wrong_key n kinds key = first_wrong (key_place n kinds key) (max n (length key))
