use Rattle.simple_convergency.specs.Stop.{flat_at}
use Rattle.simple_convergency.proofs.StopRule.flat.Goals as goal

pub returns : goal.returns
unfolding flat_at
returns c = rw c.abs.ensures
