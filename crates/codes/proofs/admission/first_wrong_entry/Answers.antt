use Rattle.std.proofs.Common.{◌+◌, ◌<◌, ◌≤◌, length, arith, below_more}
use Rattle.codes.specs.Places.{AllBelow}
use Rattle.codes.specs.Code.{start, end}
use Rattle.codes.specs.Admission.{Filled, SoundEntry, Rises}
use Rattle.codes.proofs.Checks.{next_check, rises_first, rises_next}
use Rattle.codes.proofs.admission.first_wrong_entry.Goals as goal
use Rattle.codes.proofs.admission.first_wrong_entry.Goals.{then-ends-check, else-ends-check+else-j-gt0, else-j-gt0-via-then-j-gt0+else-not-rises_at, else-j-gt0-via-else-j-gt0}

pub returns-then-not-rises_at : goal.returns-then-not-rises_at
returns-then-not-rises_at c =
    let j = c.loop-j.j in
    let near : start c.args.ends.now c.loop-j.check < j = c.loop-j.invariant.2 c.if-j-gt0.true in
    let far : j < end c.args.ends.now c.loop-j.check = omega (arith, c.loop-j.invariant.3, c.if-ends-check.false) in (
      c.loop-j-test.true,
      λ sound. omega (arith, sound.1 c.loop-j.check (c.loop-j.invariant.0, near, far), c.if-not-rises_at.ensures),
      c.loop-j.invariant.4,
    )

pub loop-j-preserved : goal.loop-j-preserved
loop-j-preserved c =
    let ps = c.args.positions.now in
    let ends = c.args.ends.now in
    let j = c.loop-j.j in
    let filled : AllBelow (Filled ends) (length ends) = λ k h. (c.requires.checks k h).0 in
    let entry : Rises ps ends j → AllBelow (SoundEntry c.args.n ps ends) (j + 1) =
    λ r. below_more (SoundEntry c.args.n ps ends) j c.loop-j.invariant.4 (c.if-position-n.false, r) in
    elim c.if-ends-check.branch [
      | then-ends-check w ↦
          let k = c.loop-j.check in
          let next = next_check ps ends k j c.requires.checks c.loop-j.invariant.0 w.if-ends-check.true c.loop-j-test.true in
          rw w.check-is
          (next.0, omega (arith, next.1), λ _. omega (arith, next.1), omega (arith, next.2), entry (rises_first ends filled ps (k + 1) j next.0 next.1))
      | else-ends-check+else-j-gt0 w ↦
          let far : j + 1 ≤ end ends c.loop-j.check = omega (arith, c.loop-j.invariant.3, w.if-ends-check.false) in
          rw w.check-is
          (elim w.else-j-gt0.branch [
            | else-j-gt0-via-then-j-gt0+else-not-rises_at w' ↦ (
              c.loop-j.invariant.0,
              omega (arith, c.loop-j.invariant.1),
              λ _. omega (arith, c.loop-j.invariant.2 w'.if-j-gt0.true),
              far,
              entry (rises_next ends filled ps j w'.if-not-rises_at.ensures),
            )
            | else-j-gt0-via-else-j-gt0 w' ↦
                let zero : start ends c.loop-j.check ≤ 0 = omega (arith, c.loop-j.invariant.1, w'.if-j-gt0.false) in
                let none : Rises ps ends j = λ k f. absurd (omega (arith, f.1, w'.if-j-gt0.false)) in
                (c.loop-j.invariant.0, omega (arith, zero), λ _. omega (arith, zero), far, entry none)
          ])
    ]
