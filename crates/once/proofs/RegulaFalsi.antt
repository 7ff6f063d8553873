-- Each public function of `regula_falsi`: its contract allows one result.
use Rattle.regula_falsi.proofs.find_root.Reads as find-root-reads
use Rattle.once.specs.One.{One}
use Rattle.once.proofs.Fixed.{fixed}

pub find_root_once : One find-root-reads.Learnt
find_root_once = fixed _ _
