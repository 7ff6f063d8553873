use borrow.Author.Rules.{rules}
use Rattle.std.proofs.Common.{Err, ◌≡◌}
use Rattle.line_text.specs.declared.call.Fault.TheVariants.{Count}
use Rattle.line_text.specs.ReadingLaws.{count_wrong, count_large, count_read}
use Rattle.line_text.proofs.call.with_count.Goals as goal

pub returns-in_err-count : goal.returns-in_err-count
returns-in_err-count c = let e : c.from_residual.result ≡ Err Count = search rules in search (count_wrong c.args.s.now 0, c.in_err-count.ensures)

pub returns-then-count-gt40 : goal.returns-then-count-gt40
returns-then-count-gt40 c = search (count_large c.args.s.now 0, c.in_ok-count.ensures)

pub returns : goal.returns
returns c = search (count_read c.args.s.now 0, c.in_ok-count.ensures)
