-- What the code's plain values stand for.
use Rattle.std.specs.Prelude.{sum}
use Rattle.protocol.specs.Plan.{Plan}
use Rattle.protocol.specs.Asking.{Verdict, settled, clashed, spent, named}
use Rattle.protocol.specs.declared.plan.Plan.{Plan as LentPlan}
use Rattle.protocol.specs.declared.terms.Turning.{Turning}
use Rattle.protocol.specs.declared.terms.Turning.TheVariants.{Settled, Clashed, Spent, Named}

abbrev pub plan_of : LentPlan → Plan
plan_of p =
    record {
      block = p.block;
      side = p.side;
      matrix = p.matrix;
      kinds = p.kinds.now;
      class = p.class;
      step = p.step;
      cap = p.cap;
    }

-- what turn answers of a verdict: of a map the count of positions that it names
abbrev pub turning_of : Verdict → Turning
turning_of settled = Settled
turning_of clashed = Clashed
turning_of spent = Spent
turning_of (named map) = Named (sum map)
