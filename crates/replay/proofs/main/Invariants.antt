use Prim.Native.Nat.{◌+◌, ◌*◌, ◌≤◌}
use Rattle.replay.specs.Courses.{block_length}
use Rattle.replay.proofs.main.Given as goal

abbrev pub invariant-loop : goal.invariant-loop
invariant-loop l = (l.block.reached.offset + l.block.kept ≤ l.counter * block_length) × (l.block.reached.records ≤ l.counter * block_length)
