use Rattle.records.proofs.WriteLaws.{same_bits}
use Rattle.records.proofs.holds_both.Goals as goal

pub returns-else-kind-ne1 : goal.returns-else-kind-ne1
returns-else-kind-ne1 c = same_bits _ _ c.if-kind-ne1.false c.pattern.ensures c.pattern-else-kind-ne1.ensures
