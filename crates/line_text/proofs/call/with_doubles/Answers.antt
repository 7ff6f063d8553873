use borrow.Author.Rules.{rules}
use Rattle.std.proofs.Common.{Err, ◌≡◌}
use Rattle.line_text.specs.declared.call.Fault.TheVariants.{Number}
use Rattle.line_text.specs.ReadingLaws.{doubles_wrong, doubles_read}
use Rattle.line_text.proofs.call.with_doubles.Goals as goal

pub returns-in_err-p : goal.returns-in_err-p
returns-in_err-p c = let e : c.from_residual.result ≡ Err Number = search rules in search (doubles_wrong c.args.s.now 0, c.in_err-p.ensures)

pub returns : goal.returns
returns c = search (doubles_read c.args.s.now 0, c.in_ok-p.ensures)
