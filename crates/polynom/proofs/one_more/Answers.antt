-- `polynom::one_more` meets its contract. Assumes nothing.
use Rattle.polynom.proofs.TermLaws.{sums_more}
use Rattle.polynom.proofs.one_more.Goals as goal

pub returns : goal.returns
returns c = search sums_more
