use Rattle.records.proofs.WriteLaws.{answer_put}
use borrow.Author.Rules.{rules}
use Rattle.records.proofs.Draft.put_answer.Goals as goal

pub returns : goal.returns
returns c = record { put = search (answer_put, rules); near = search rules }
