use Rattle.std.proofs.Common.{sym, ap, ◌∙◌}
use Rattle.worked_cases.specs.Seen.{frames_of}
use Rattle.worked_cases.proofs.Computed.{computed}
use Rattle.worked_cases.proofs.Premised.{companion}
use Rattle.worked_cases.proofs.whole_runs.companion_word.Goals as goal

pub returns : goal.returns
returns c =
    record {
      companion = rw computed.both_rounds companion;
      hidden = ap frames_of computed.shifted ∙ sym (ap frames_of computed.both_rounds);
    }
