-- `polynom::begun` meets its contract. Assumes nothing.
use borrow.Author.Rules.{rules}
use native.Mathlib.Omega.{arith}
use Prim.Native.Nat.{◌+◌, ◌-◌}
use lib.ListN.{length}
use Rattle.polynom.proofs.TermLaws.{sums_none}
use Rattle.polynom.proofs.begun.Goals as goal

pub one_more-requires : goal.one_more-requires
one_more-requires c = let a = c.args.a.now in (omega arith, sums_none a _ (1 + (length a - 1)) (omega arith))

pub overflow_sub-n-then-n-gt0 : goal.overflow_sub-n-then-n-gt0
overflow_sub-n-then-n-gt0 c = omega arith

pub two_more-requires : goal.two_more-requires
two_more-requires c = let a = c.args.a.now in (omega arith, sums_none a _ (2 + (length a - 2)) (omega arith))

pub returns-then-n-eq1 : goal.returns-then-n-eq1
returns-then-n-eq1 c = (omega arith, omega arith, search rules)

pub returns-then-n-gt0 : goal.returns-then-n-gt0
returns-then-n-gt0 c = (omega arith, omega arith, search rules)

pub returns-else-n-gt0 : goal.returns-else-n-gt0
returns-else-n-gt0 c = let a = c.args.a.now in (omega arith, omega arith, sums_none a _ 0 (omega arith))
