-- Each public function of `simple_convergency`: its contract allows one result.
use Rattle.simple_convergency.proofs.BadRule.number.Reads as number-reads
use Rattle.simple_convergency.proofs.Tolerances.both.Reads as both-reads
use Rattle.simple_convergency.proofs.StopRule.checked.Reads as checked-reads
use Rattle.simple_convergency.proofs.StopRule.found.Reads as found-reads
use Rattle.simple_convergency.proofs.StopRule.flat.Reads as flat-reads
use Rattle.simple_convergency.proofs.StopRule.converged.Reads as converged-reads
use Rattle.simple_convergency.proofs.StopRule.turns.Reads as turns-reads
use Rattle.once.specs.One.{One}
use Rattle.once.proofs.Fixed.{fixed}

pub number_once : One number-reads.Learnt
number_once = fixed _ _

pub both_once : One both-reads.Learnt
both_once = fixed _ _

pub checked_once : One checked-reads.Learnt
checked_once = fixed _ _

pub found_once : One found-reads.Learnt
found_once = fixed _ _

pub flat_once : One flat-reads.Learnt
flat_once = fixed _ _

pub converged_once : One converged-reads.Learnt
converged_once = fixed _ _

pub turns_once : One turns-reads.Learnt
turns_once = fixed _ _
