use Prim.Native.Nat.{◌*◌}
use Rattle.std.specs.Prelude.{take}
use Rattle.records.specs.Drafts.{Puts}
use Rattle.records.proofs.Draft.put_numbers.Given as goal

abbrev pub invariant-loop-n : goal.invariant-loop-n
invariant-loop-n l = Puts (10 * l.n-index) (take l.n-index l.row) l.initial.self l.self
