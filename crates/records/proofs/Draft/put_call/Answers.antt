use borrow.Author.Rules.{rules}
use Rattle.std.proofs.Common.{arith}
use Rattle.records.proofs.WriteLaws.{own_put, call_put}
use Rattle.records.proofs.Draft.put_call.Goals as goal

pub returns : goal.returns
returns c =
    let head = c.put_head.ensures in
    let count = c.put_number.ensures in
    let coefficients = own_put c.args.content.now c.own_count.ensures (search rules) c.put_doubles.ensures in
    let rule = c.put_rule.ensures in
    record { put = call_put _ _ _ head.put count.put coefficients.put rule.put; near = let a = head.near in let b = count.near in let d = coefficients.near in let e = rule.near in omega arith }
