use borrow.Author.Rules.{rules}
use Rattle.std.proofs.Common.{Err, ◌≡◌}
use Rattle.line_text.specs.declared.call.Fault.TheVariants.{Method}
use Rattle.line_text.specs.ReadingLaws.{read_empty, read_no_method, read_read}
use Rattle.line_text.proofs.call.read.Goals as goal

pub returns-then-f : goal.returns-then-f
returns-then-f c = search read_empty

pub returns-in_err-m : goal.returns-in_err-m
returns-in_err-m c = let e : c.from_residual.result ≡ Err Method = search rules in search (read_no_method, c.in_err-m.ensures)

pub returns : goal.returns
returns c = search (read_read, c.in_ok-m.ensures)
