use Rattle.std.proofs.Common.{◌≡◌, map, length, get_or, pos, nat_abs, sym, ap, ◌∙◌, arith}
use Rattle.std.proofs.ByRecursion.{All-weaker}
use Rattle.std.proofs.lemmas.List.Edits.{fill_by_more}
use Rattle.std.proofs.lemmas.List.{ext_get_or, get_or-map, length-map}
use Rattle.codes.specs.Tells.{sign_bit}
use Rattle.propagation.specs.Course.{pattern_of}
use Rattle.propagation.specs.Within.{Fine}
use Rattle.propagation.proofs.Elements.{read_map}
use Rattle.propagation.proofs.Signs.{bit_read}
use Rattle.propagation.proofs.answer.write_answer.Goals as goal

pub loop-i-preserved : goal.loop-i-preserved
loop-i-preserved g c =
    let eighths = g.B.Belief.eighths in
    let totals = c.args.totals.now in
    let i = c.loop-i.i in
    let x = c.index-totals-i.result in
    let h = c.loop-i-test.true in
    let whole = All-weaker (Fine g.B.Belief.exact eighths 69615) g.B.Belief.exact (λ y f. f.0) totals c.requires.small in
    let bit =
    bit_read g.B.Belief.exact eighths g.B.TellsBit.told g.met.B.Belief.tells totals i c.bit.result x h c.index-totals-i.is whole c.bit.ensures.value in
    let size : c.count.result ≡ get_or (map nat_abs (map eighths totals)) i 0 =
    c.count.ensures ∙ ap nat_abs (sym (read_map eighths totals i x h c.index-totals-i.is))
    ∙ sym (get_or-map nat_abs (map eighths totals) i (pos 0) 0 (rw (length-map totals eighths) h)) in (
      rw bit (fill_by_more (λ j. get_or (pattern_of (map eighths totals)) j 0) c.loop-i.pattern i 0
          (omega (arith, c.loop-i.auto.pattern, c.requires.pattern_long)) c.loop-i.invariant.0),
      rw size (fill_by_more (λ j. get_or (map nat_abs (map eighths totals)) j 0) c.loop-i.confidence i 0
          (omega (arith, c.loop-i.auto.confidence, c.requires.confidence_long)) c.loop-i.invariant.1),
    )

pub returns : goal.returns
returns g c =
    let means = map g.B.Belief.eighths c.args.totals.now in
    let n = length c.args.totals.now in
    let long : length means ≡ n = length-map c.args.totals.now g.B.Belief.eighths in
    let pattern_long = c.loop-i.auto.pattern ∙ c.requires.pattern_long in
    let confidence_long = c.loop-i.auto.confidence ∙ c.requires.confidence_long in
    record {
      signs = ext_get_or 0 c.loop-i.pattern (pattern_of means) (pattern_long ∙ sym (length-map means sign_bit ∙ long))
          (λ j h. c.loop-i.invariant.0 j (omega (arith, pattern_long)));
      sizes = ext_get_or 0 c.loop-i.confidence (map nat_abs means) (confidence_long ∙ sym (length-map means nat_abs ∙ long))
          (λ j h. c.loop-i.invariant.1 j (omega (arith, confidence_long)));
    }
