use borrow.Author.Rules.{rules}
use Rattle.record_text.specs.RecordTextLaws.{first_within}
use Rattle.record_text.proofs.record.put_first.Goals as goal

pub returns-in-Ok-clause-end_bound : goal.returns-in-Ok-clause-end_bound
returns-in-Ok-clause-end_bound c = (search rules, search first_within)
