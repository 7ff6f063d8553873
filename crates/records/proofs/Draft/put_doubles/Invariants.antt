use Prim.Native.Nat.{◌*◌}
use Rattle.std.specs.Prelude.{take}
use Rattle.records.specs.Records.{bits_of}
use Rattle.records.specs.Drafts.{Puts}
use Rattle.records.proofs.Draft.put_doubles.Given as goal

abbrev pub invariant-loop-x : goal.invariant-loop-x
invariant-loop-x l = Puts (10 * l.x-index) (bits_of (take l.x-index l.a)) l.initial.self l.self
