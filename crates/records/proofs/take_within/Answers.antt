use Rattle.std.proofs.Common.{rules}
use Rattle.records.specs.Records.{between}
use Rattle.records.proofs.take_within.Goals as goal

pub returns : goal.returns
unfolding between
returns c = c.take_if.ensures (between c.args.least c.args.most) (λ n h b p. search rules)
