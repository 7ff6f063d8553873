use Rattle.playback.proofs.answer_now.Goals as goal

pub returns : goal.returns
returns c = c.search.ensures
