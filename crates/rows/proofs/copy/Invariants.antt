use Rattle.std.specs.Prelude.{take, drop, ◌++◌, ◌≡◌}
use Rattle.rows.proofs.copy.Given as goal

abbrev pub invariant-loop-i : goal.invariant-loop-i
invariant-loop-i g l = l.out ≡ take l.i l.t ++ drop l.i l.initial.out
