use Prim.{tt}
use Rattle.roots.proofs.search_simple.Goals as goal

pub search-requires : goal.search-requires
search-requires c = tt

pub returns : goal.returns
returns c = rw c.both.ensures at c.search.ensures
