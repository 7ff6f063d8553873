use Rattle.std.proofs.Common.{length}
use Rattle.records.specs.ReadLaws.{Filling}
use Rattle.records.proofs.take_doubles.Given as goal

abbrev pub invariant-loop-x : goal.invariant-loop-x
invariant-loop-x l = Filling (length l.initial.a) l.s l.at l.a l.p l.x-index
