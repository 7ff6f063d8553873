use Rattle.std.proofs.Common.{arith}
use Rattle.searching.specs.Programs.{play}
use Rattle.searching.proofs.BoundLaws.{within_done}
use Rattle.searching.proofs.LoopLaws.{opened_room, opened_search}
use Rattle.walking.specs.Walking.{opening, walking}
use Rattle.walking.proofs.WalkingLaws.{turn_small}
use Rattle.walking.proofs.walk.Goals as goal

pub finished-requires-clause-in_range : goal.finished-requires-clause-in_range
unfolding play
finished-requires-clause-in_range c = (omega (arith, c.turns.ensures), opened_room (opening c.args.x) c.args.a.now c.fresh.ensures c.next-opened.ensures within_done)

pub finished-requires-clause-small : goal.finished-requires-clause-small
finished-requires-clause-small c = turn_small _

pub returns : goal.returns
unfolding play walking
returns c = opened_search (opening c.args.x) c.args.a.now c.fresh.ensures c.next-opened.ensures _ _ c.turns.ensures c.finished.ensures
