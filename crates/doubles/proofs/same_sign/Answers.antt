-- `doubles::same_sign` meets its contract. Assumes nothing.
use Rattle.doubles.proofs.Signs.{same_sides}
use Rattle.doubles.proofs.same_sign.Goals as goal

pub returns : goal.returns
returns c = same_sides c.args.a c.args.b
