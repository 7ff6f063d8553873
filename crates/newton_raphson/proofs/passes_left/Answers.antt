use Rattle.std.proofs.Common.{arith}
use Rattle.newton_raphson.proofs.passes_left.Goals as goal

pub returns-then-s : goal.returns-then-s
returns-then-s c = rw (c.max.ensures, c.saturating_sub-left.ensures, c.in-Continue.is, c.if-s.true) (omega arith)
