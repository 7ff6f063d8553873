use Rattle.line_text.specs.ReplyLaws.{call_put, wrong_put, empty_put}
use Rattle.line_text.proofs.reply.put_reply.Goals as goal

pub returns-then-n-eq0-clause-put : goal.returns-then-n-eq0-clause-put
returns-then-n-eq0-clause-put g c = search empty_put

pub returns-in-Ok-clause-put : goal.returns-in-Ok-clause-put
returns-in-Ok-clause-put g c = search call_put

pub returns-in-Err-clause-put : goal.returns-in-Err-clause-put
returns-in-Err-clause-put g c = search wrong_put
