use Rattle.line_text.specs.ReplyLaws.{trim_count}
use Rattle.line_text.proofs.reply.trimmed_length.Goals as goal

pub returns : goal.returns
returns c = trim_count c.args.s c.strip_suffix.result c.strip_suffix.ensures.cases c.unwrap_or.ensures
