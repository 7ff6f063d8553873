use Rattle.line_text.specs.TextLaws.{decimal_put}
use Rattle.line_text.proofs.text.put_decimal.Goals as goal

pub returns-clause-put : goal.returns-clause-put
returns-clause-put c = search decimal_put
