use Rattle.doubles.proofs.Patterns.{nan_written}
use Rattle.doubles.proofs.pattern.Goals as goal

pub returns-then-is_nan : goal.returns-then-is_nan
returns-then-is_nan c = nan_written c.args.x c.if-is_nan.ensures.value
