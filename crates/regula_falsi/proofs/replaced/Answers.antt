use Rattle.numerical.proofs.Choices.{choices}
use Rattle.regula_falsi.specs.RegulaFalsi.{replaced_of}
use Rattle.regula_falsi.proofs.replaced.Goals as goal

pub returns-then-same_sign : goal.returns-then-same_sign
unfolding replaced_of
returns-then-same_sign c = search choices
