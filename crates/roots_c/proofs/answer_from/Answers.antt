use Rattle.roots_c.specs.FlatRecords.{answer_from}
use Rattle.roots_c.proofs.answer_from.Goals as goal

pub returns-in-1 : goal.returns-in-1
unfolding answer_from
returns-in-1 c = rw c.in-1.is
