use Rattle.polynom.specs.Terms.{Passed}
use Rattle.polynom.proofs.value.Given as goal

abbrev pub invariant-loop-left : goal.invariant-loop-left
invariant-loop-left l = Passed l.a l.x (record { sum = l.sum; left = l.left })

abbrev pub decreases-loop-left : goal.decreases-loop-left
decreases-loop-left l = l.left
