use Rattle.line_text.specs.TextLaws.{hex_put}
use Rattle.line_text.proofs.text.put_hex.Goals as goal

pub returns-clause-put : goal.returns-clause-put
returns-clause-put c = search hex_put
