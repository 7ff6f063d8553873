-- `polynom::two_more` meets its contract. Assumes nothing.
use native.Mathlib.Omega.{arith}
use Prim.Native.Nat.{◌+◌}
use Rattle.polynom.proofs.TermLaws.{sums_at}
use Rattle.polynom.proofs.two_more.Goals as goal

pub one_more-requires : goal.one_more-requires
one_more-requires c =
    let i = c.args.i in
    (omega arith, sums_at _ _ (2 + i) (1 + (i + 1)) (omega arith) c.requires.1)

pub one_more-requires-2 : goal.one_more-requires-2
one_more-requires-2 c =
    let i = c.args.i in
    (omega arith, sums_at _ _ (i + 1) (1 + i) (omega arith) c.one_more.ensures)
