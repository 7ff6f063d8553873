use Rattle.record_text.specs.RecordTexts.{longest_line}
use Prim.Native.Nat.{◌+◌, ◌-◌, ◌≤◌}
use lib.ListN.{length}
use Rattle.show.specs.StreamLaws.{Filling}
use Rattle.show.proofs.fill.Given as goal

abbrev pub invariant-loop-at : goal.invariant-loop-at
invariant-loop-at l = (l.waiting + longest_line ≤ length l.out) × Filling l.block l.from l.initial.out l.out l.at l.waiting

abbrev pub decreases-loop-at : goal.decreases-loop-at
decreases-loop-at l = length l.block - l.at
