use borrow.Author.Rules.{rules}
use Rattle.record_text.specs.RecordTextLaws.{own_put, call_put}
use Rattle.record_text.proofs.record.put_call.Goals as goal

pub returns-clause-put : goal.returns-clause-put
returns-clause-put c =
    let own = own_put _ _ c.args.content.now c.own_count-own.ensures (search rules) c.put_doubles-t.ensures.put in
    call_put _ _ _ (search rules) c.put_decimal-p.ensures.put c.put_decimal-q.ensures.put own c.put_rule.ensures.put
