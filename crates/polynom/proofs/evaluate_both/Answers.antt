use Rattle.polynom.specs.Polynom.{evaluated_both}
use Rattle.polynom.proofs.evaluate_both.Goals as goal

pub returns : goal.returns
unfolding evaluated_both
returns c = rw (← c.value_and_derivative.ensures) c.both_if_finite.ensures
