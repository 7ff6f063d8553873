use Rattle.polynom_search.proofs.TurnLaws.{by_begin_replaced}
use Rattle.polynom_search.proofs.chosen.Goals as goal

pub returns-then-decided : goal.returns-then-decided
returns-then-decided c = λ cs. search by_begin_replaced
