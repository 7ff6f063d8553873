-- `polynom::value` meets its contract. The loop's invariant: the coefficients from `left` on are summed, and an even number is left. Assumes nothing.
use borrow.Author.Rules.{rules}
use native.Mathlib.Omega.{arith}
use Prim.Native.Nat.{◌+◌, ◌-◌}
use Rattle.polynom.specs.Polynom.{value}
use Rattle.polynom.proofs.TermLaws.{sums_at}
use Rattle.polynom.proofs.value.Goals as goal

pub overflow_sub-left : goal.overflow_sub-left
overflow_sub-left c = omega (arith, c.loop-left.invariant.1)

pub two_more-sum-requires : goal.two_more-sum-requires
two_more-sum-requires c =
    let l = c.loop-left in
    (omega (arith, l.invariant.1), sums_at _ _ l.left (2 + (l.left - 2)) (omega (arith, l.invariant.1)) l.invariant.2)

pub loop-left-smaller : goal.loop-left-smaller
loop-left-smaller c = omega arith

pub loop-left-preserved : goal.loop-left-preserved
loop-left-preserved c = (omega arith, omega (arith, c.loop-left.invariant.1), search rules)

pub returns : goal.returns
unfolding value
returns c = let l = c.loop-left in rw (sums_at _ _ l.left 0 (omega (arith, l.invariant.1)) l.invariant.2)
