-- `doubles::order_of` meets its contract: the mask takes the low 63 bits, which an i64 holds, and so does their negation. Assumes nothing.
use lib.Ieee.{binary64, to_bits}
use lib.Ieee.Bits.{to_bits-lt}
use Rattle.doubles.specs.Doubles.{order_of}
use Rattle.doubles.proofs.Patterns.{low_fits, neg_fits, negative, positive}
use Rattle.doubles.proofs.order_of.Goals as goal

pub returns-then-is_nan : goal.returns-then-is_nan
unfolding order_of
returns-then-is_nan c = rw (← c.if-is_nan.ensures.value)

pub overflow_cast-size : goal.overflow_cast-size
overflow_cast-size c = low_fits (to_bits binary64 c.args.x)

pub overflow_sub-result : goal.overflow_sub-result
overflow_sub-result c = neg_fits (to_bits binary64 c.args.x)

pub returns-then-bits-eq1 : goal.returns-then-bits-eq1
unfolding order_of
returns-then-bits-eq1 c = rw (← c.if-is_nan.ensures.value) (negative (to_bits binary64 c.args.x) c.if-bits-eq1.true)

pub returns-else-bits-eq1 : goal.returns-else-bits-eq1
unfolding order_of
returns-else-bits-eq1 c = rw (← c.if-is_nan.ensures.value) (positive (to_bits binary64 c.args.x) (to_bits-lt binary64 c.args.x (rw c.well_formed.0.1 tt)) c.if-bits-eq1.false)
