use Rattle.std.proofs.Common.{◌≡◌}
use Rattle.decoders.proofs.repeats.asks_twice.Given as goal

abbrev pub invariant-loop : goal.invariant-loop
invariant-loop g l =
    (g.D.Decoder.rule l.decoder ≡ g.D.Decoder.rule l.initial.decoder)
    × (g.D.Decoder.room l.decoder ≡ g.D.Decoder.room l.initial.decoder)
