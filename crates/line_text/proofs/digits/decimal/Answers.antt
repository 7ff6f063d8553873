use Rattle.numerical.proofs.Choices.{choices}
use Rattle.line_text.specs.Digits.{decimal_of}
use Rattle.line_text.proofs.digits.decimal.Goals as goal

pub returns-then-is_empty : goal.returns-then-is_empty
unfolding decimal_of
returns-then-is_empty c = search choices

pub returns : goal.returns
unfolding decimal_of
returns c = search choices
