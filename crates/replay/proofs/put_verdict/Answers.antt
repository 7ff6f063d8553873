use Rattle.std.specs.Prelude.{◌≡◌}
use Rattle.line_text.specs.TextLaws.{put_both}
use Rattle.records.specs.Records.{refusal_number}
use Rattle.replay.proofs.put_verdict.Goals as goal

pub returns-in-Differs-clause-put : goal.returns-in-Differs-clause-put
returns-in-Differs-clause-put c = rw c.in-Differs.is (search put_both)

pub returns-in-Refused-clause-put : goal.returns-in-Refused-clause-put
returns-in-Refused-clause-put c = let e : c.from.result ≡ refusal_number c.in-Refused.refusal = cc in let p = rw e at c.put_decimal-in-Refused.ensures.put in rw c.in-Refused.is (search put_both)
