use Rattle.std.proofs.Common.{rules}
use Rattle.records.proofs.ReadLaws.{double_held, double_missed}
use Rattle.records.proofs.take_double.Goals as goal

pub returns-in_err-bits : goal.returns-in_err-bits
returns-in_err-bits g c = λ ok d. rw c.from_residual.ensures (double_missed (c.in_err-bits.ensures ok d))

pub returns : goal.returns
returns g c = λ ok d. double_held (c.in_ok-bits.ensures ok d) (search rules)
