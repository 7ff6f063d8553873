use Rattle.simple_convergency.specs.Stop.{converged_at}
use Rattle.simple_convergency.proofs.StopRule.converged.Goals as goal

pub returns : goal.returns
unfolding converged_at
returns c = rw c.abs.ensures
