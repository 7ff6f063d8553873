use Rattle.rows.proofs.PutLaws.{row_one, number_near}
use borrow.Author.Rules.{rules}
use Rattle.records.proofs.Draft.put_number.Goals as goal

pub returns : goal.returns
returns c = record { put = search (row_one, rules); near = search number_near }
