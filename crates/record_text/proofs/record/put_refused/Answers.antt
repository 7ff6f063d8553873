use Rattle.record_text.specs.RecordTextLaws.{refused_put}
use Rattle.record_text.proofs.record.put_refused.Goals as goal

pub returns-clause-put : goal.returns-clause-put
returns-clause-put c = refused_put _ _ _ c.put-p.ensures (rw (c.from.ensures) at c.put_decimal.ensures.put)
