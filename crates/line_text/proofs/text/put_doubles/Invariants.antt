use Prim.Native.Nat.{◌+◌, ◌*◌}
use mathlib.Core.Path.{◌≡◌}
use lib.ListN.{take}
use Rattle.line_text.specs.Texts.{Put, numbers_text}
use Rattle.line_text.proofs.text.put_doubles.Given as goal

abbrev pub invariant-loop-x : goal.invariant-loop-x
invariant-loop-x l = Put l.initial.out l.at (numbers_text (take l.x-index l.numbers)) l.out l.p × (l.p ≡ l.at + 17 * l.x-index)
