use Rattle.std.proofs.Common.{arith}
use Rattle.searching.proofs.LoopLaws.{loops_next, loops_ended, loops_out}
use Rattle.searching.proofs.searched.Goals as goal

pub returns-in-Break : goal.returns-in-Break
returns-in-Break g c = loops_ended _ _ _ c.loop.invariant _ c.loop-test.true c.take_turn-turn.ensures c.in-Break.is

pub loop-preserved : goal.loop-preserved
loop-preserved g c = loops_next _ _ _ c.loop.invariant _ c.loop-test.true c.take_turn-turn.ensures (c.requires.small _) c.in-Continue.is

pub returns : goal.returns
returns g c = loops_out _ _ _ c.loop.invariant (omega (arith, c.loop-test.false))
