use mathlib.Core.Path.{◌≡◌}
use Prim.Native.Nat.{◌≤◌, ◌+◌}
use lib.ListN.{length}
use Rattle.line_text.specs.Inputs.{Fed, stops_at}
use Rattle.line_text.proofs.input.fed.Given as goal

abbrev pub invariant-loop-i : goal.invariant-loop-i
invariant-loop-i g l = (length l.line ≡ length l.initial.line) × (length l.out ≡ length l.initial.out) × (l.s.waiting + g.R.Replies.LONGEST ≤ length l.out) × Fed g.R.Replies.text l.block l.from l.initial.line l.initial.out l.initial.s (l.from + l.i) l.line l.out l.s × (stops_at g.R.Replies.text g.R.Replies.LONGEST l.block (l.from + l.i) l.line l.out l.s ≡ stops_at g.R.Replies.text g.R.Replies.LONGEST l.block l.from l.initial.line l.initial.out l.initial.s)
