use Rattle.simple_convergency.proofs.StopLaws.{value_bad, point_bad, tolerance_refused, limit_refused, rule_given}
use Rattle.simple_convergency.proofs.StopRule.checked.Goals as goal

pub returns-then-is_bad_tolerance : goal.returns-then-is_bad_tolerance
returns-then-is_bad_tolerance c = search (tolerance_refused, value_bad, point_bad)

pub returns-then-is_bad_tolerance-2 : goal.returns-then-is_bad_tolerance-2
returns-then-is_bad_tolerance-2 c = search (tolerance_refused, value_bad, point_bad)

pub returns-then-limit-gt-GREATEST_LIMIT : goal.returns-then-limit-gt-GREATEST_LIMIT
returns-then-limit-gt-GREATEST_LIMIT c = search limit_refused

pub returns : goal.returns
returns c = search rule_given
