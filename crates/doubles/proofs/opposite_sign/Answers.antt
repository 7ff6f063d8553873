-- `doubles::opposite_sign` meets its contract. Assumes nothing.
use Rattle.doubles.proofs.Signs.{opposite_sides}
use Rattle.doubles.proofs.opposite_sign.Goals as goal

pub returns : goal.returns
returns c = opposite_sides c.args.a c.args.b
