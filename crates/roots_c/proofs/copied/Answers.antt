use Rattle.std.proofs.lemmas.List.{take_min, length-take}
use Rattle.records.specs.Records.{padded}
use Rattle.roots_c.proofs.copied.Goals as goal

pub returns : goal.returns
unfolding padded
returns c = rw (c.copy.ensures, c.min-n.ensures, take_min, length-take)
