use Rattle.std.proofs.Common.{sym, length-take-le}
use Rattle.roots.proofs.CallLaws.{within_two}
use Rattle.record_text.specs.RecordTextLaws.{starts_put, rule_put}
use Rattle.record_text.proofs.record.put_rule.Goals as goal

pub slice_bounds-starts-end : goal.slice_bounds-starts-end
slice_bounds-starts-end c = within_two _ _ c.start_count-count.ensures c.starts-starts.ensures

pub slice_bounds-put_doubles-end : goal.slice_bounds-put_doubles-end
slice_bounds-put_doubles-end c = sym (length-take-le _ _ (within_two _ _ c.start_count-count.ensures c.starts-starts.ensures))

pub returns-clause-put : goal.returns-clause-put
returns-clause-put c =
    let starts = starts_put _ _ _ c.number.ensures c.start_count-count.ensures c.starts-starts.ensures c.put_doubles-p.ensures.put in
    rule_put _ _ _ _ _ starts c.put_doubles-q.ensures.put c.put_decimal.ensures.put
