use Rattle.std.proofs.Common.{ap, sym, ◌∙◌}
use Rattle.roots.specs.Calls.{all_finite, found_under}
use Rattle.roots.proofs.CallLaws.{two_finite, count_refused, coefficient_refused, start_refused, by_rule, rule_refused, limit_kept}
use Rattle.roots.proofs.checked_call.Goals as goal

pub returns-then-is_bad_count-clause-in_order : goal.returns-then-is_bad_count-clause-in_order
returns-then-is_bad_count-clause-in_order c = search count_refused

pub returns-then-not-all_finite-clause-in_order : goal.returns-then-not-all_finite-clause-in_order
returns-then-not-all_finite-clause-in_order c = search coefficient_refused

pub returns-then-not-all_finite-2-clause-in_order : goal.returns-then-not-all_finite-2-clause-in_order
returns-then-not-all_finite-2-clause-in_order c =
    start_refused _ _ _ _ c.is_bad_count.ensures c.if-is_bad_count.false c.all_finite.ensures c.if-not-all_finite.false (c.all_finite-2.ensures ∙ ap all_finite c.starts.ensures ∙ two_finite _) c.if-not-all_finite-2.true

pub returns-in_err-checked-clause-in_order : goal.returns-in_err-checked-clause-in_order
returns-in_err-checked-clause-in_order c =
    rule_refused c.args.a.now c.args.method _ _ c.from_residual.ensures.1
    ∙ ap (found_under c.args.a.now c.args.method) (sym c.in_err-checked.was)
    ∙ by_rule c.args.a.now c.args.method _ _ c.is_bad_count.ensures c.if-is_bad_count.false c.all_finite.ensures c.if-not-all_finite.false (c.all_finite-2.ensures ∙ ap all_finite c.starts.ensures ∙ two_finite _) c.if-not-all_finite-2.false c.checked.ensures

pub returns-clause-in_order : goal.returns-clause-in_order
returns-clause-in_order c =
    ap (found_under c.args.a.now c.args.method) (sym c.in_ok-checked.was)
    ∙ by_rule c.args.a.now c.args.method _ _ c.is_bad_count.ensures c.if-is_bad_count.false c.all_finite.ensures c.if-not-all_finite.false (c.all_finite-2.ensures ∙ ap all_finite c.starts.ensures ∙ two_finite _) c.if-not-all_finite-2.false c.checked.ensures

pub returns-clause-in_range : goal.returns-clause-in_range
returns-clause-in_range c = limit_kept c.args.tolerances c.args.limit (sym c.checked.ensures ∙ c.in_ok-checked.was)
