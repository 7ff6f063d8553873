use Prim.Native.Nat.{◌+◌}
use Rattle.rows.specs.TakeLaws.{Taking}
use Rattle.rows.proofs.take.Given as goal

abbrev pub invariant-loop-i : goal.invariant-loop-i
invariant-loop-i l = Taking l.s l.at l.v l.w (l.at + l.i)
