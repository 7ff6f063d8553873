use mathlib.Core.Path.{◌≡◌}
use Prim.Native.Nat.{◌≤◌, ◌-◌}
use lib.ListN.{length, drop}
use Rattle.line_text.specs.Inputs.{line_of, line_after}
use Rattle.line_text.proofs.desk.Desk.answer.Given as goal

abbrev pub invariant-loop-at : goal.invariant-loop-at
invariant-loop-at g l = (length l.self.line ≡ length l.initial.self.line) × (l.at ≤ length l.block)
    × (line_after (length l.initial.self.line) (line_of l.self.line l.self.state) (drop l.at l.block) ≡ line_after (length l.initial.self.line) (line_of l.initial.self.line l.initial.self.state) l.block)

abbrev pub decreases-loop-at : goal.decreases-loop-at
decreases-loop-at g l = length l.block - l.at
