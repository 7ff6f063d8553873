use Rattle.line_text.specs.InputLaws.{taken_end, taken_kept, taken_lost}
use Rattle.line_text.proofs.input.taken.Goals as goal

pub returns-then-b-eq10 : goal.returns-then-b-eq10
returns-then-b-eq10 g c = search taken_end

pub returns-then-s-line : goal.returns-then-s-line
returns-then-s-line g c = search taken_kept

pub returns-else-s-line : goal.returns-else-s-line
returns-else-s-line g c = search taken_lost
