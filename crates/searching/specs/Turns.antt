-- What a turn of the code stands for. Definitions only.
use Rattle.std.specs.declared.ops.ControlFlow.{ControlFlow}
use Rattle.std.specs.declared.ops.ControlFlow.TheVariants.{Break, Continue}
use Rattle.numerical.specs.declared.Answer.{Answer}
use Rattle.numerical.specs.declared.Progress.{Progress}
use Rattle.searching.specs.Programs.{Turned, ended, next}
use Rattle.searching.specs.declared.Turn.{Turn}

-- where it leads: it breaks off with an answer, or continues from a state
abbrev pub seen : {S : Type 0} → ControlFlow Answer S → Turned S
seen (Break answer) = ended answer
seen (Continue s) = next s

abbrev pub viewed : {S : Type 0} → Turn S → Turned S × Progress
viewed t = (seen t.leads, t.progress)
