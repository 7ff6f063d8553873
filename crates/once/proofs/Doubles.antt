-- Each public function of `doubles`: its contract allows one result.
use Rattle.doubles.proofs.from_pattern.Reads as from-pattern-reads
use Rattle.doubles.proofs.is_finite.Reads as is-finite-reads
use Rattle.doubles.proofs.pattern.Reads as pattern-reads
use Rattle.doubles.proofs.abs.Reads as abs-reads
use Rattle.doubles.proofs.is_above.Reads as is-above-reads
use Rattle.doubles.proofs.is_below.Reads as is-below-reads
use Rattle.doubles.proofs.same_sign.Reads as same-sign-reads
use Rattle.doubles.proofs.opposite_sign.Reads as opposite-sign-reads
use Rattle.doubles.proofs.order_of.Reads as order-of-reads
use Rattle.doubles.proofs.of_order.Reads as of-order-reads
use Rattle.doubles.proofs.pulled.Reads as pulled-reads
use Rattle.doubles.proofs.is_outside.Reads as is-outside-reads
use Rattle.once.specs.One.{One}
use Rattle.once.proofs.Fixed.{fixed}

pub from_pattern_once : One from-pattern-reads.Learnt
from_pattern_once = fixed _ _

pub pattern_once : One pattern-reads.Learnt
pattern_once = fixed _ _

pub is_finite_once : One is-finite-reads.Learnt
is_finite_once = fixed _ _

pub abs_once : One abs-reads.Learnt
abs_once = fixed _ _

pub is_above_once : One is-above-reads.Learnt
is_above_once = fixed _ _

pub is_below_once : One is-below-reads.Learnt
is_below_once = fixed _ _

pub same_sign_once : One same-sign-reads.Learnt
same_sign_once = fixed _ _

pub opposite_sign_once : One opposite-sign-reads.Learnt
opposite_sign_once = fixed _ _

pub order_of_once : One order-of-reads.Learnt
order_of_once = fixed _ _

pub of_order_once : One of-order-reads.Learnt
of_order_once = fixed _ _

pub pulled_once : One pulled-reads.Learnt
pulled_once = fixed _ _

pub is_outside_once : One is-outside-reads.Learnt
is_outside_once = fixed _ _
