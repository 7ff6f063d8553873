use Rattle.simple_convergency.specs.Stop.{found_at}
use Rattle.simple_convergency.proofs.StopRule.found.Goals as goal

pub returns : goal.returns
unfolding found_at
returns c = rw c.abs.ensures
