use Rattle.blocks.proofs.PartLaws.{part_moved}
use Rattle.blocks.proofs.move_to_front.Goals as goal

pub returns-then-n-ne0-clause-bytes : goal.returns-then-n-ne0-clause-bytes
returns-then-n-ne0-clause-bytes c = search part_moved
