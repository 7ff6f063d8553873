use Rattle.std.proofs.Common.{arith}
use Rattle.searching.specs.Turns.{seen}
use Rattle.searching.proofs.LoopLaws.{opened_room, opened_search}
use Rattle.newton_raphson.specs.NewtonRaphson.{turns_left, newton_program, newton_raphson}
use Rattle.newton_raphson.proofs.NewtonRaphsonLaws.{left_most, small_opening, turn_small}
use Rattle.newton_raphson.proofs.find_root.Goals as goal

pub finished-requires-clause-in_range : goal.finished-requires-clause-in_range
finished-requires-clause-in_range c = (omega (arith, c.passes_left-most.ensures, left_most c.args.stop (seen c.opening-opened.result.leads)), opened_room _ _ c.fresh.ensures c.opening-opened.ensures (small_opening _ _))

pub finished-requires-clause-small : goal.finished-requires-clause-small
finished-requires-clause-small c = turn_small _

pub returns : goal.returns
unfolding newton_program newton_raphson
returns c = opened_search _ _ c.fresh.ensures c.opening-opened.ensures (turns_left c.args.stop) _ c.passes_left-most.ensures c.finished.ensures
