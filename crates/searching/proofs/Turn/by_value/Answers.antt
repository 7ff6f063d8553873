use Rattle.searching.proofs.Turn.by_value.Goals as goal

pub returns : goal.returns
returns g c = c.ended.ensures
