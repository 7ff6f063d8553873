use Rattle.searching.specs.Loops.{run_of}
use Rattle.searching.proofs.LoopLaws.{Loops}
use Rattle.searching.proofs.searched.Given as goal

abbrev pub invariant-loop : goal.invariant-loop
invariant-loop g l = Loops (g.M.Search.turn l.stop) l.a (run_of l.a (g.M.Search.turn l.stop) l.most l.initial.state l.initial.so_far) l.most l.counter l.state l.so_far
