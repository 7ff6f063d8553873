use Rattle.polynom_search.proofs.TurnLaws.{finite_middle}
use Rattle.polynom_search.proofs.middle_in.Goals as goal

pub returns-then-is_finite : goal.returns-then-is_finite
returns-then-is_finite c = search finite_middle
