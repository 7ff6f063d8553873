use Rattle.std.proofs.Common.{rules}
use Rattle.records.specs.Records.{is_double}
use Rattle.records.proofs.ReadLaws.{fill_none, fill_on, fill_done}
use Rattle.records.proofs.take_doubles.Goals as goal

pub returns-in_err-taken : goal.returns-in_err-taken
returns-in_err-taken c = rw c.from_residual.ensures (fill_none c.loop-x.invariant c.loop-x-test.true (c.in_err-taken.ensures is_double (λ n h b p. search rules)))

pub loop-x-preserved : goal.loop-x-preserved
loop-x-preserved c = fill_on c.loop-x.invariant c.loop-x-test.true (c.in_ok-taken.ensures is_double (λ n h b p. search rules))

pub returns : goal.returns
returns c = search fill_done
