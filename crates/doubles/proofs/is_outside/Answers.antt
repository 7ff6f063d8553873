-- `doubles::is_outside` meets its contract. Assumes nothing.
use Rattle.doubles.proofs.Pairs.{outside_beyond}
use Rattle.doubles.proofs.is_outside.Goals as goal

pub returns : goal.returns
returns c = rw (c.is_beyond.ensures, c.higher.ensures, c.lower.ensures) (outside_beyond _ _ _)
