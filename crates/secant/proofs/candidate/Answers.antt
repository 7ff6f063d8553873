use Rattle.secant.specs.Secant.{candidate_of}
use Rattle.secant.proofs.candidate.Goals as goal

pub returns : goal.returns
unfolding candidate_of
returns c = c.chord_to.ensures
