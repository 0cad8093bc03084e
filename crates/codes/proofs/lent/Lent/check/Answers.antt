use Rattle.std.proofs.Common.{refl, rules}
use Rattle.codes.proofs.Checks.{ends-within, check-few, check-within}
use Rattle.codes.proofs.lent.Lent.check.Goals as goal

pub slice_bounds-result-end-2 : goal.slice_bounds-result-end-2
slice_bounds-result-end-2 c =
    let h = ends-within c.args.self.positions.now c.args.self.ends.now c.args.k c.args.self.sound.checks c.if-k-self.false in
    search rules

pub returns : goal.returns
returns c =
    let m = c.args.self in
    rw c.start.ensures
    (record {
      value = refl;
      within = check-within m.width m.positions.now m.ends.now c.args.k m.sound c.if-k-self.false;
      few = check-few m.width m.positions.now m.ends.now c.args.k m.sound c.if-k-self.false;
    })
