use Rattle.doubles.proofs.clamp.Goals as goal

pub returns-then-x-low : goal.returns-then-x-low
returns-then-x-low c = rw c.if-x-low.true
