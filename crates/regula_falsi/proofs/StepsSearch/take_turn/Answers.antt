use Rattle.regula_falsi.specs.RegulaFalsi.{turn_from}
use Rattle.searching.proofs.StepLaws.{steps}
use Rattle.regula_falsi.proofs.StepsSearch.take_turn.Goals as goal

pub returns-then-is_finite : goal.returns-then-is_finite
unfolding turn_from
returns-then-is_finite c = search steps
