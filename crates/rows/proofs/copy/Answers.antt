use Rattle.rows.proofs.PutLaws.{copy_on, copy_done}
use Rattle.rows.proofs.copy.Goals as goal

pub loop-i-preserved : goal.loop-i-preserved
loop-i-preserved g c = copy_on _ _ _ _ _ c.loop-i.invariant c.requires c.loop-i-test.true c.index-t-i.is

pub returns : goal.returns
returns g c = copy_done _ _ _ _ c.loop-i.invariant c.loop-i-test.false c.loop-i.auto.i-end
