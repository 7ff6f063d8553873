use Rattle.records.proofs.WriteLaws.{whole_not, whole_if}
use Rattle.records.proofs.is_whole.Goals as goal

pub returns-in-Ok : goal.returns-in-Ok
returns-in-Ok c = whole_if _ c.in-Ok.ensures

pub returns-in-Err : goal.returns-in-Err
returns-in-Err c = whole_not _ c.in-Err.ensures
