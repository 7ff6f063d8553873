use Rattle.std.proofs.Common.{arith}
use Rattle.searching.proofs.LoopLaws.{opened_room, opened_search}
use Rattle.regula_falsi.specs.RegulaFalsi.{regula_falsi, illinois_program}
use Rattle.regula_falsi.proofs.RegulaFalsiLaws.{small_opening, turn_small}
use Rattle.regula_falsi.proofs.find_root.Goals as goal

pub finished-requires-clause-in_range : goal.finished-requires-clause-in_range
finished-requires-clause-in_range c = (omega (arith, c.turns.ensures), opened_room _ _ c.fresh.ensures c.opening-opened.ensures (small_opening _ _ _))

pub finished-requires-clause-small : goal.finished-requires-clause-small
finished-requires-clause-small c = turn_small _

pub returns : goal.returns
unfolding regula_falsi illinois_program
returns c = opened_search _ _ c.fresh.ensures c.opening-opened.ensures _ _ c.turns.ensures c.finished.ensures
