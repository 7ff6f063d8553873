use Rattle.std.proofs.Common.{arith}
use Rattle.std.proofs.lemmas.Grind.{common_steps}
use Rattle.blocks.proofs.PartLaws.{part_kept}
use Rattle.show.proofs.Buffers.show.Goals as goal

pub returns : goal.returns
returns c = (c.in_ok-at.at, grind (arith, common_steps), search part_kept)
