-- Each public function of `walking`: its contract allows one result.
use Rattle.walking.proofs.walk.Reads as walk-reads
use Rattle.once.specs.One.{One}
use Rattle.once.proofs.Fixed.{fixed}

pub walk_once : One walk-reads.Learnt
walk_once = fixed _ _
