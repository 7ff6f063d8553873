use Rattle.roots_c.proofs.words_of.Goals as goal

pub returns : goal.returns
returns c = rw (c.from.ensures, c.number.ensures, c.kind.ensures)
