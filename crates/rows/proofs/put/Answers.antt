use Rattle.rows.proofs.PutLaws.{put_starts, put_on, put_last}
use Rattle.rows.proofs.put.Goals as goal

pub loop-m-init : goal.loop-m-init
loop-m-init c = search put_starts

pub loop-m-preserved : goal.loop-m-preserved
loop-m-preserved c = search put_on

pub returns : goal.returns
returns c = search put_last
