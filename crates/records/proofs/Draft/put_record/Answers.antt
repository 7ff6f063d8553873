use Rattle.records.proofs.WriteLaws.{record_put}
use Rattle.records.proofs.Draft.put_record.Goals as goal

pub returns : goal.returns
returns c = record_put _ c.counts.ensures c.put_call.ensures c.put_answer.ensures c.put_numbers.ensures
