use borrow.Author.Rules.{rules}
use Rattle.line_text.specs.DigitLaws.{number_on}
use Rattle.line_text.proofs.digits.number_in.Goals as goal

pub loop-b-preserved : goal.loop-b-preserved
loop-b-preserved c = (search rules, search (number_on, c.in_ok-d.was, c.in_ok-checked_mul.ensures, c.in_ok-v.ensures))
