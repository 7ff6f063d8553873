use Rattle.record_text.specs.RecordReplyLaws.{searched_put}
use Rattle.record_text.proofs.reply.RecordedReplies.put_answer.Goals as goal

pub returns-clause-put : goal.returns-clause-put
returns-clause-put c = search searched_put
