use Rattle.std.proofs.Common.{rules}
use Rattle.records.proofs.ReadLaws.{byte_fits}
use Rattle.records.proofs.PartLaws.{no_first, old_head, no_second, no_method, new_head}
use Rattle.records.proofs.read_head.Goals as goal

pub returns-in_err-first : goal.returns-in_err-first
returns-in_err-first c = rw c.from_residual.ensures (no_first _ c.in_err-first.ensures)

pub overflow_cast-head : goal.overflow_cast-head
overflow_cast-head c = byte_fits 0 5 c.in_ok-first.ensures (search rules)

pub returns-then-first-ne0 : goal.returns-then-first-ne0
returns-then-first-ne0 c = old_head _ c.in_ok-first.ensures (search rules)

pub returns-in_err-kind : goal.returns-in_err-kind
returns-in_err-kind c = rw c.from_residual-in_err-kind.ensures (no_second _ c.in_ok-first.ensures (search rules) c.in_err-kind.ensures)

pub returns-in_err-method : goal.returns-in_err-method
returns-in_err-method c = rw c.from_residual-in_err-method.ensures (no_method _ c.in_ok-first.ensures (search rules) c.in_ok-kind.ensures c.in_err-method.ensures)

pub overflow_cast-head-2 : goal.overflow_cast-head-2
overflow_cast-head-2 c = byte_fits 1 5 c.in_ok-method.ensures (search rules)

pub returns : goal.returns
returns c = new_head _ c.in_ok-first.ensures (search rules) c.in_ok-kind.ensures c.in_ok-method.ensures
