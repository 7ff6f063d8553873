use Rattle.rows.specs.PutLaws.{Putting}
use Rattle.rows.proofs.put.Given as goal

abbrev pub invariant-loop-m : goal.invariant-loop-m
invariant-loop-m l = Putting l.initial.out l.at l.n l.out l.m l.p

abbrev pub decreases-loop-m : goal.decreases-loop-m
decreases-loop-m l = l.m
