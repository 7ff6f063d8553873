use lib.Ieee.{div, of_bits}
use Rattle.doubles.proofs.Patterns.{no_nan_pattern, nan_pattern}
use Rattle.doubles.proofs.from_pattern.Goals as goal

pub float_from_bits-result : goal.float_from_bits-result
float_from_bits-result c = no_nan_pattern c.args.n c.if-n-le9218868437227405312.true

pub returns-else-n-le9218868437227405312 : goal.returns-else-n-le9218868437227405312
unfolding div of_bits
returns-else-n-le9218868437227405312 c = nan_pattern c.args.n c.if-n-le9218868437227405312.false
