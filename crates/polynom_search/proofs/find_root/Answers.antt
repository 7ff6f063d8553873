use Rattle.std.proofs.Common.{arith}
use Rattle.searching.proofs.LoopLaws.{opened_room, opened_search}
use Rattle.polynom_search.specs.PolynomSearch.{polynom_search, polynom_program}
use Rattle.polynom_search.proofs.PolynomSearchLaws.{small_opening, turn_small}
use Rattle.polynom_search.proofs.find_root.Goals as goal

pub finished-requires-clause-in_range : goal.finished-requires-clause-in_range
finished-requires-clause-in_range c = (omega (arith, c.turns.ensures), opened_room _ _ c.fresh.ensures (c.opening-opened.ensures _) (small_opening c.args.stop _ _))

pub finished-requires-clause-small : goal.finished-requires-clause-small
finished-requires-clause-small c = turn_small _

pub returns : goal.returns
unfolding polynom_search polynom_program
returns c = opened_search _ _ c.fresh.ensures (c.opening-opened.ensures _) _ _ c.turns.ensures c.finished.ensures
