-- `searching::pull` meets its contract. Assumes nothing.
use Rattle.searching.proofs.RuleLaws.{placed_outside, placed_inside}
use Rattle.searching.proofs.pull.Goals as goal

pub returns-then-is_outside : goal.returns-then-is_outside
returns-then-is_outside c = search placed_outside

pub returns-else-is_outside : goal.returns-else-is_outside
returns-else-is_outside c = search placed_inside
