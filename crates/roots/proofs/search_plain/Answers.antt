-- `roots::search_plain` meets its contract. Assumes nothing.
use Prim.{tt}
use Rattle.roots.proofs.search_plain.Goals as goal

pub search_simple-requires : goal.search_simple-requires
search_simple-requires c = tt

pub returns : goal.returns
returns c = c.search_simple.ensures
