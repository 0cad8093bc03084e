use Rattle.flipping.proofs.Keeps.{keeps_known, within_limit}
use Rattle.flipping.proofs.Votes.{leader_is_first}
use Rattle.flipping.proofs.decoder.Flipping.new.Goals as goal

pub returns-clause-keeps_known : goal.returns-clause-keeps_known
returns-clause-keeps_known c = keeps_known c.args.limit

pub returns-clause-within_limit : goal.returns-clause-within_limit
returns-clause-within_limit c = within_limit c.args.limit

pub returns-clause-leader_is_first : goal.returns-clause-leader_is_first
returns-clause-leader_is_first c = leader_is_first
