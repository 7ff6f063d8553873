use Rattle.std.proofs.Common.{arith, sym, length-take-le}
use Rattle.roots.proofs.CallLaws.{within_two}
use Rattle.records.proofs.WriteLaws.{starts_put, rule_put}
use Rattle.records.proofs.Draft.put_rule.Goals as goal

pub slice_bounds-starts-end : goal.slice_bounds-starts-end
slice_bounds-starts-end c = within_two _ _ c.start_count-count.ensures c.starts-starts.ensures

pub slice_bounds-put_doubles-end : goal.slice_bounds-put_doubles-end
slice_bounds-put_doubles-end c = sym (length-take-le _ _ (within_two _ _ c.start_count-count.ensures c.starts-starts.ensures))

pub returns : goal.returns
returns c =
    let starts = starts_put _ c.number.ensures c.start_count-count.ensures c.starts-starts.ensures c.put_doubles.ensures in
    let tolerances = c.put_tolerances.ensures in
    let limit = c.put_number.ensures in
    record { put = rule_put _ _ _ _ _ _ starts.put tolerances.put limit.put; near = let a = starts.near in let b = tolerances.near in let d = limit.near in omega arith }
