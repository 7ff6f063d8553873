use Rattle.line_text.specs.FieldLaws.{field_found}
use Rattle.line_text.proofs.fields.next.Goals as goal

pub returns : goal.returns
returns c = field_found c.args.s.now c.args.at c.spaces.ensures.value c.until_space.ensures.value c.requires c.spaces.ensures.upper_bound c.until_space.ensures.upper_bound
