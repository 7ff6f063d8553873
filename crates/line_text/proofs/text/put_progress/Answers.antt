use Rattle.line_text.specs.TextLaws.{progress_put}
use Rattle.line_text.proofs.text.put_progress.Goals as goal

pub returns-clause-put : goal.returns-clause-put
returns-clause-put c = search progress_put
