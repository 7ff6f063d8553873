use Rattle.line_text.proofs.reply.AnsweredReplies.put_answer.Goals as goal

pub returns-clause-put : goal.returns-clause-put
returns-clause-put c = rw c.search-outcome.ensures at c.put_outcome.ensures.put
