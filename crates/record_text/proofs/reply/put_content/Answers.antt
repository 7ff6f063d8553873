use borrow.Author.Rules.{rules}
use Rattle.record_text.specs.RecordReplyLaws.{bytes_within, bytes_count, recorded_put, unrecorded_put}
use Rattle.record_text.proofs.reply.put_content.Goals as goal

pub slice_bounds-aside-end : goal.slice_bounds-aside-end
slice_bounds-aside-end c = search bytes_within

pub slice_bounds-put_bytes-end : goal.slice_bounds-put_bytes-end
slice_bounds-put_bytes-end c = search bytes_count

pub returns-in-Ok-clause-put : goal.returns-in-Ok-clause-put
returns-in-Ok-clause-put c = search recorded_put

pub returns-in-Err-clause-put : goal.returns-in-Err-clause-put
returns-in-Err-clause-put c = search (unrecorded_put, rules)
