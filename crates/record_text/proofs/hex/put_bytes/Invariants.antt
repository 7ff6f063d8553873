use mathlib.Core.Path.{◌≡◌}
use Prim.Native.Nat.{◌+◌, ◌*◌}
use lib.ListN.{take}
use Rattle.line_text.specs.Texts.{Put}
use Rattle.record_text.specs.RecordTexts.{hex_bytes}
use Rattle.record_text.proofs.hex.put_bytes.Given as goal

abbrev pub invariant-loop-b : goal.invariant-loop-b
invariant-loop-b l = Put l.initial.out l.at (hex_bytes (take l.b-index l.s)) l.out l.p × (l.p ≡ l.at + 2 * l.b-index)
