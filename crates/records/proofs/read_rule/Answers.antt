use Rattle.std.proofs.Common.{◌∙◌, sym, length-take-le}
use Rattle.roots.proofs.CallLaws.{few_starts}
use Rattle.records.proofs.PartLaws.{filled, not_filled, no_starts, no_tolerances, no_limit, rule_is}
use Rattle.records.proofs.read_rule.Goals as goal

pub slice_bounds-starts-end : goal.slice_bounds-starts-end
slice_bounds-starts-end c = few_starts _ c.start_count-k.ensures

pub slice_bounds-take_doubles-end : goal.slice_bounds-take_doubles-end
slice_bounds-take_doubles-end c = sym (length-take-le _ _ (few_starts _ c.start_count-k.ensures))

pub returns-in_err-p : goal.returns-in_err-p
returns-in_err-p c =
    let room = few_starts _ c.start_count-k.ensures in
    rw c.from_residual.ensures (no_starts _ _ _ _ c.start_count-k.ensures (not_filled _ room c.in_err-p.ensures))

pub returns-in_err-tolerances : goal.returns-in_err-tolerances
returns-in_err-tolerances c =
    let room = few_starts _ c.start_count-k.ensures in
    rw c.from_residual-in_err-tolerances.ensures (no_tolerances _ _ _ _ c.start_count-k.ensures (filled _ room c.in_ok-p.ensures) c.in_err-tolerances.ensures)

pub returns-in_err-limit : goal.returns-in_err-limit
returns-in_err-limit c =
    let room = few_starts _ c.start_count-k.ensures in
    rw c.from_residual-in_err-limit.ensures (no_limit _ _ _ _ c.start_count-k.ensures (filled _ room c.in_ok-p.ensures) c.in_ok-tolerances.ensures c.in_err-limit.ensures)

pub returns : goal.returns
returns c =
    let room = few_starts _ c.start_count-k.ensures in
    rule_is _ _ _ _ c.start_count-k.ensures (filled _ room c.in_ok-p.ensures) c.in_ok-tolerances.ensures _ c.in_ok-limit.ensures (c.take_doubles.auto.a ∙ length-take-le _ _ room) c.numbered.ensures
