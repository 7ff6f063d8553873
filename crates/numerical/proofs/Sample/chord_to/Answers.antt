use Rattle.std.specs.Prelude.{refl}
use Rattle.numerical.proofs.Sample.chord_to.Goals as goal

pub returns : goal.returns
returns c = refl
