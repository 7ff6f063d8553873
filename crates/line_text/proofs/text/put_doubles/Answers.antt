use borrow.Author.Rules.{rules}
use native.Mathlib.Omega.{arith}
use Rattle.std.specs.Float.{nan}
use Rattle.line_text.specs.Texts.{double_field}
use Rattle.line_text.specs.TextLaws.{each_on}
use Rattle.line_text.proofs.text.put_doubles.Goals as goal

pub loop-x-preserved : goal.loop-x-preserved
loop-x-preserved c = (each_on double_field c.args.numbers.now c.loop-x.x-index c.loop-x.invariant.0 nan (search rules) c.put_double-p.ensures.put, omega arith)
