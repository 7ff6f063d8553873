use Rattle.numerical.proofs.Outcome.refused_at_once.Goals as goal

pub returns : goal.returns
returns c = rw c.fresh.ensures
