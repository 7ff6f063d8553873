use Rattle.std.proofs.Common.{rules, arith}
use Rattle.rows.proofs.TakeLaws.{take_nothing, take_small, take_starts, take_ends, take_needless, take_last, take_on, times_fits, sum_fits, times_fits_on, sum_fits_on, weight_fits, take_by_tenth}
use Rattle.rows.proofs.take.Goals as goal

pub returns-in_err-get : goal.returns-in_err-get
returns-in_err-get c = rw c.from_residual.ensures (take_nothing _ _ c.in_err-get.ensures.lookup.0)

pub returns-then-first-lt128 : goal.returns-then-first-lt128
returns-then-first-lt128 c = take_small _ _ c.in_ok-get.ensures.lookup.0 (search rules) c.if-first-lt128.true

pub loop-i-init : goal.loop-i-init
loop-i-init c = search (take_starts, rules)

pub returns-in_err-get-2 : goal.returns-in_err-get-2
returns-in_err-get-2 c = rw c.from_residual-in_err-get-2.ensures (take_ends _ _ _ _ _ c.loop-i.invariant c.in_err-get-2.ensures.lookup.0)

pub returns-then-b-eq0 : goal.returns-then-b-eq0
returns-then-b-eq0 c = search (take_needless, rules)

pub overflow_mul-result : goal.overflow_mul-result
overflow_mul-result c = search (times_fits, rules)

pub overflow_add-result-then-b-lt128 : goal.overflow_add-result-then-b-lt128
overflow_add-result-then-b-lt128 c = search (sum_fits, rules)

pub returns-then-b-lt128 : goal.returns-then-b-lt128
returns-then-b-lt128 c =
    take_last _ _ _ _ _ c.loop-i.invariant (search rules) c.in_ok-get-2.ensures.lookup.0 (search rules) (λ z. omega arith) c.if-b-lt128.true

pub overflow_mul-v : goal.overflow_mul-v
overflow_mul-v c = search (times_fits_on, rules)

pub overflow_add-v : goal.overflow_add-v
overflow_add-v c = search (sum_fits_on, rules)

pub overflow_mul-w : goal.overflow_mul-w
overflow_mul-w c = search (weight_fits, rules)

pub loop-i-preserved : goal.loop-i-preserved
loop-i-preserved c = take_on _ _ _ _ _ c.loop-i.invariant (search rules) c.in_ok-get-2.ensures.lookup.0 (search rules) (search rules) (search rules) (search rules)

pub returns : goal.returns
returns c = take_by_tenth _ _ _ _ _ c.loop-i.invariant (search rules) c.take_tenth.ensures
