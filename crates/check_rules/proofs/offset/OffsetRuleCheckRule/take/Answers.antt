use Rattle.std.proofs.Common.{min, max}
use Rattle.check_rules.proofs.TwoLows.{lows_more}
use Rattle.check_rules.proofs.offset.OffsetRuleCheckRule.take.Goals as goal

pub returns : goal.returns
returns g c xs m (el, en, (a, b, ea, eb, lows)) em = (
  c.lower.ensures.kept,
  c.lower-2.ensures.kept,
  (
    min a m,
    min b (max a m),
    c.lower.ensures.value a m ea em,
    c.lower-2.ensures.value b (max a m) eb (c.higher.ensures.value a m ea em),
    lows_more 800 xs a b m lows,
  ),
)
