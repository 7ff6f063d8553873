use Rattle.std.proofs.Common.{◌∙◌, ap}
use Rattle.std.specs.Float.Ieee.Scale.{finite}
use Rattle.records.specs.Records.{is_double}
use Rattle.records.proofs.is_double.Goals as goal

pub returns : goal.returns
unfolding is_double
returns c = c.is_finite.ensures ∙ ap finite c.from_pattern.ensures
