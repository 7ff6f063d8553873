use borrow.Author.Rules.{rules}
use Rattle.records.proofs.WriteLaws.{one_put, two_put}
use Rattle.records.proofs.Draft.put_tolerances.Goals as goal

pub returns-then-kind-eq1 : goal.returns-then-kind-eq1
returns-then-kind-eq1 c = record { put = one_put _ _ _ _ c.if-kind-eq1.true c.put_doubles.ensures.put; near = search rules }

pub returns : goal.returns
returns c = record { put = two_put _ _ _ _ c.if-kind-eq1.false c.put_doubles-2.ensures.put; near = search rules }
