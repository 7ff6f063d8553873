use Rattle.searching.proofs.LoopLaws.{closed_end, closed_state}
use Rattle.searching.proofs.finished.Goals as goal

pub returns-in-Break : goal.returns-in-Break
returns-in-Break g c = closed_end _ _ _ _ c.in-Break.is

pub returns-in-Continue : goal.returns-in-Continue
returns-in-Continue g c = closed_state _ _ _ _ c.in-Continue.is c.searched.ensures
