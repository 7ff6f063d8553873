use borrow.Author.Rules.{rules}
use Rattle.records.proofs.WriteLaws.{doubles_start, doubles_on, doubles_done}
use Rattle.records.proofs.Draft.put_doubles.Goals as goal

pub loop-x-init : goal.loop-x-init
loop-x-init c = search (doubles_start, rules)

pub loop-x-preserved : goal.loop-x-preserved
loop-x-preserved c = search (doubles_on, rules)

pub returns : goal.returns
returns c = search (doubles_done, rules)
