use Rattle.record_text.specs.RecordTextLaws.{record_put}
use Rattle.record_text.proofs.record.put_record.Goals as goal

pub returns-clause-put : goal.returns-clause-put
returns-clause-put c = search record_put
