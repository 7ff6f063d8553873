use borrow.Author.Rules.{rules}
use Rattle.records.proofs.WriteLaws.{numbers_start, numbers_on, numbers_done}
use Rattle.records.proofs.Draft.put_numbers.Goals as goal

pub loop-n-init : goal.loop-n-init
loop-n-init c = search (numbers_start, rules)

pub loop-n-preserved : goal.loop-n-preserved
loop-n-preserved c = search (numbers_on, rules)

pub returns : goal.returns
returns c = search (numbers_done, rules)
