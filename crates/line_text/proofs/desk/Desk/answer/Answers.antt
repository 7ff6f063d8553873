use mathlib.Core.Path.{refl}
use native.Mathlib.Omega.{arith}
use borrow.Author.Rules.{rules}
use Rattle.line_text.specs.InputLaws.{part_on}
use Rattle.line_text.proofs.desk.Desk.answer.Goals as goal

pub invariant_of-self : goal.invariant_of-self
invariant_of-self g c = record { kept_in_bounds = omega (arith, c.fed-p.ensures.fed.fine.kept); none_waits = refl }

pub loop-at-preserved : goal.loop-at-preserved
loop-at-preserved g c = (search rules, search rules, search part_on)
