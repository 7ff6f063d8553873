-- Each public function of `polynom`: its contract allows one result.
use Rattle.polynom.proofs.ValueAndDerivative.newton_point.Reads as newton-point-reads
use Rattle.polynom.proofs.value.Reads as value-reads
use Rattle.polynom.proofs.value_and_derivative.Reads as value-and-derivative-reads
use Rattle.polynom.proofs.evaluate.Reads as evaluate-reads
use Rattle.polynom.proofs.evaluate_both.Reads as evaluate-both-reads
use Rattle.once.specs.One.{One}
use Rattle.once.proofs.Fixed.{fixed}

pub newton_point_once : One newton-point-reads.Learnt
newton_point_once = fixed _ _

pub value_once : One value-reads.Learnt
value_once = fixed _ _

pub value_and_derivative_once : One value-and-derivative-reads.Learnt
value_and_derivative_once = fixed _ _

pub evaluate_once : One evaluate-reads.Learnt
evaluate_once = fixed _ _

pub evaluate_both_once : One evaluate-both-reads.Learnt
evaluate_both_once = fixed _ _
