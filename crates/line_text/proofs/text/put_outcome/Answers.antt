use Rattle.line_text.specs.TextLaws.{outcome_put}
use Rattle.line_text.proofs.text.put_outcome.Goals as goal

pub returns-clause-put : goal.returns-clause-put
returns-clause-put c = search outcome_put
