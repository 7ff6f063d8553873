use Rattle.std.proofs.Common.{rules}
use Rattle.records.specs.Records.{is_tolerance}
use Rattle.records.proofs.PartLaws.{no_value, one_tolerance, no_point, two_tolerances}
use Rattle.records.proofs.read_tolerances.Goals as goal

pub returns-in_err-of_values : goal.returns-in_err-of_values
returns-in_err-of_values c = rw c.from_residual.ensures (no_value _ _ _ (c.in_err-of_values.ensures is_tolerance (λ n h b p. search rules)))

pub returns-then-kind-eq1 : goal.returns-then-kind-eq1
returns-then-kind-eq1 c = one_tolerance _ _ _ (c.in_ok-of_values.ensures is_tolerance (λ n h b p. search rules)) (search rules) (search rules)

pub returns-in_err-of_points : goal.returns-in_err-of_points
returns-in_err-of_points c =
    rw c.from_residual-in_err-of_points.ensures
    (no_point _ _ _ (c.in_ok-of_values.ensures is_tolerance (λ n h b p. search rules)) (search rules) (c.in_err-of_points.ensures is_tolerance (λ n h b p. search rules)))

pub returns : goal.returns
returns c = two_tolerances _ _ _ (c.in_ok-of_values.ensures is_tolerance (λ n h b p. search rules)) (search rules) (c.in_ok-of_points.ensures is_tolerance (λ n h b p. search rules))
