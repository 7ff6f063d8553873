use borrow.Author.Rules.{rules}
use Rattle.std.proofs.Common.{Err, ◌≡◌}
use Rattle.line_text.specs.declared.call.Fault.TheVariants.{Limit}
use Rattle.line_text.specs.ReadingLaws.{limit_wrong, limit_trailing, limit_read}
use Rattle.line_text.proofs.call.with_limit.Goals as goal

pub returns-in_err-limit : goal.returns-in_err-limit
returns-in_err-limit c = let e : c.from_residual.result ≡ Err Limit = search rules in search (limit_wrong c.args.s.now 0, c.in_err-limit.ensures)

pub returns-then-g : goal.returns-then-g
returns-then-g c = search (limit_trailing c.args.s.now 0, c.in_ok-limit.ensures)

pub returns : goal.returns
returns c = search (limit_read c.args.s.now 0, c.in_ok-limit.ensures)
