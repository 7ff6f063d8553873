use Rattle.searching.proofs.StepLaws.{steps}
use Rattle.walking.specs.Walking.{turn_from}
use Rattle.walking.proofs.StepsSearch.take_turn.Goals as goal

pub returns : goal.returns
unfolding turn_from
returns c = search (steps, c.seen_at.ensures)
