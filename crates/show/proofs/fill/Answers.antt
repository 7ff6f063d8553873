use borrow.Author.Rules.{rules}
use native.Mathlib.Omega.{arith}
use Rattle.show.specs.StreamLaws.{taken_some, fill_on, fill_full, fill_wrong}
use Rattle.show.proofs.fill.Goals as goal

pub returns-in_default : goal.returns-in_default
returns-in_default c = fill_wrong c.loop-at.invariant.1 c.put_first-shown.ensures.taken_value c.put_first-shown.ensures.put c.in_default.is _ (omega arith) c.loop-at-test.true (omega arith)

pub loop-at-smaller : goal.loop-at-smaller
loop-at-smaller c = omega (arith, taken_some c.loop-at.invariant.1 c.put_first-shown.ensures.taken_value c.put_first-shown.ensures.put c.in-Some.is)

pub loop-at-preserved : goal.loop-at-preserved
loop-at-preserved c = (search rules, search (fill_on, c.in-Some.is))

pub returns-then-waiting : goal.returns-then-waiting
returns-then-waiting c = fill_full c.loop-at.invariant.1 c.put_first-shown.ensures.taken_value c.put_first-shown.ensures.put c.in-Some.is _ (omega arith)
