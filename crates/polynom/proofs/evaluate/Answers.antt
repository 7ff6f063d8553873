use Rattle.polynom.specs.Polynom.{evaluated}
use Rattle.polynom.proofs.evaluate.Goals as goal

pub returns : goal.returns
unfolding evaluated
returns c = rw (← c.value.ensures) c.sample_if_finite.ensures
