use Rattle.line_text.specs.CallLaws.{Filling}
use Rattle.line_text.proofs.call.read_doubles.Given as goal

abbrev pub invariant-loop-x : goal.invariant-loop-x
invariant-loop-x l = Filling l.s l.at l.k l.initial.x-items l.x-items l.p l.x-index
