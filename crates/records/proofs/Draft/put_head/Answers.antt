use Rattle.records.proofs.WriteLaws.{old_head_put, new_head_put}
use borrow.Author.Rules.{rules}
use Rattle.std.proofs.Common.{◌∙◌}
use Rattle.records.proofs.Draft.put_head.Goals as goal

pub returns-then-kind-eq1 : goal.returns-then-kind-eq1
returns-then-kind-eq1 c = record { put = old_head_put _ _ _ _ c.if-kind-eq1.true (c.from-number.ensures ∙ c.number.ensures) c.put_number.ensures.put; near = search rules }

pub returns : goal.returns
returns c = record { put = new_head_put _ _ _ _ c.if-kind-eq1.false (c.from-number.ensures ∙ c.number.ensures) c.put_numbers.ensures.put; near = search rules }
