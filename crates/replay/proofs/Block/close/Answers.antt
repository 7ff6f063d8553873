use Rattle.std.proofs.Common.{rules}
use Rattle.replay.proofs.CourseLaws.{played_fits, last_goes}
use Rattle.replay.proofs.Block.close.Goals as goal

pub told-requires : goal.told-requires
told-requires c = search (rules, played_fits)

pub returns : goal.returns
returns c = search (last_goes, rules)
