use Rattle.std.proofs.Common.{rules}
use Rattle.records.proofs.ReadLaws.{byte_fits}
use Rattle.records.proofs.PartLaws.{no_steps, no_values, no_derivatives, no_mark, progress_is}
use Rattle.records.proofs.read_progress.Goals as goal

pub returns-in_err-steps : goal.returns-in_err-steps
returns-in_err-steps c = rw c.from_residual.ensures (no_steps _ _ c.in_err-steps.ensures)

pub returns-in_err-values : goal.returns-in_err-values
returns-in_err-values c = rw c.from_residual-in_err-values.ensures (no_values _ _ c.in_ok-steps.ensures c.in_err-values.ensures)

pub returns-in_err-derivatives : goal.returns-in_err-derivatives
returns-in_err-derivatives c = rw c.from_residual-in_err-derivatives.ensures (no_derivatives _ _ c.in_ok-steps.ensures c.in_ok-values.ensures c.in_err-derivatives.ensures)

pub returns-in_err-mark : goal.returns-in_err-mark
returns-in_err-mark c = rw c.from_residual-in_err-mark.ensures (no_mark _ _ c.in_ok-steps.ensures c.in_ok-values.ensures c.in_ok-derivatives.ensures c.in_err-mark.ensures)

pub overflow_cast-progress : goal.overflow_cast-progress
overflow_cast-progress c = byte_fits 0 2 c.in_ok-mark.ensures (search rules)

pub returns : goal.returns
returns c = progress_is _ _ c.in_ok-steps.ensures c.in_ok-values.ensures c.in_ok-derivatives.ensures c.in_ok-mark.ensures
