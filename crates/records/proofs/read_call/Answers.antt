use Rattle.std.proofs.Common.{rules, ◌∙◌, sym, length-take-le}
use Rattle.records.proofs.ReadLaws.{room_for, place}
use Rattle.records.proofs.PartLaws.{filled, not_filled, no_head, no_count, no_coefficients, no_rule, call_is}
use Rattle.records.proofs.read_call.Goals as goal

pub returns-in_err-head : goal.returns-in_err-head
returns-in_err-head c = rw c.from_residual.ensures (no_head _ c.in_err-head.ensures)

pub returns-in_err-many : goal.returns-in_err-many
returns-in_err-many c = rw c.from_residual-in_err-many.ensures (no_count _ c.in_ok-head.ensures c.in_err-many.ensures)

pub slice_bounds-coefficients-end : goal.slice_bounds-coefficients-end
slice_bounds-coefficients-end c = room_for 1 16 c.in_ok-many.ensures (search rules)

pub slice_bounds-take_doubles-end : goal.slice_bounds-take_doubles-end
slice_bounds-take_doubles-end c = sym (length-take-le _ _ (room_for 1 16 c.in_ok-many.ensures (search rules)))

pub returns-in_err-p : goal.returns-in_err-p
returns-in_err-p c =
    let few = room_for 1 16 c.in_ok-many.ensures (search rules) in
    rw c.from_residual-in_err-p.ensures (no_coefficients _ c.in_ok-head.ensures c.in_ok-many.ensures (not_filled _ few c.in_err-p.ensures))

pub read_rule-requires : goal.read_rule-requires
read_rule-requires c = place c.in_ok-p.ensures

pub returns-in_err-rule : goal.returns-in_err-rule
returns-in_err-rule c =
    let few = room_for 1 16 c.in_ok-many.ensures (search rules) in
    rw c.from_residual-in_err-rule.ensures (no_rule _ c.in_ok-head.ensures c.in_ok-many.ensures (filled _ few c.in_ok-p.ensures) c.in_err-rule.ensures)

pub returns : goal.returns
returns c =
    let few = room_for 1 16 c.in_ok-many.ensures (search rules) in
    call_is _ c.in_ok-head.ensures c.in_ok-many.ensures (filled _ few c.in_ok-p.ensures) c.in_ok-rule.ensures (c.take_doubles.auto.a ∙ length-take-le _ _ few)
