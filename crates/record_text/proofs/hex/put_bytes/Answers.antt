use borrow.Author.Rules.{rules}
use native.Mathlib.Omega.{arith}
use Rattle.line_text.specs.TextLaws.{each_on}
use Rattle.record_text.specs.RecordTexts.{pair}
use Rattle.record_text.proofs.hex.put_bytes.Goals as goal

pub loop-b-preserved : goal.loop-b-preserved
loop-b-preserved c = (each_on pair c.args.s.now c.loop-b.b-index c.loop-b.invariant.0 0 (search rules) c.put_pair-p.ensures.put, omega arith)
