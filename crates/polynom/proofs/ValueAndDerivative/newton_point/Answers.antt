use Rattle.std.specs.Prelude.{refl}
use Rattle.polynom.specs.Polynom.{newton_point}
use Rattle.polynom.proofs.ValueAndDerivative.newton_point.Goals as goal

pub returns : goal.returns
unfolding newton_point
returns c = refl
